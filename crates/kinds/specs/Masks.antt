-- Which of the choices 0 to 63 a mask has.
use Rattle.std.specs.Prelude.{ℕ, Bool, ◌&&◌, ◌==◌, nat_lt}
use Rattle.std.specs.Int.{bit_at}
use Rattle.kinds.specs.declared.mask.Mask.{Mask}

-- the members of a mask are the places of its bits that are 1: it has 64, and the lowest has the place 0
abbrev pub marks : Mask → ℕ → Bool
marks m v = nat_lt v 64 && bit_at m.bits v == 1
