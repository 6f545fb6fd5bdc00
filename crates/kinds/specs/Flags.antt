-- Which of the choices 0 and 1 a flag has.
use Rattle.std.specs.Prelude.{ℕ, Bool, false, ◌||◌, ◌==◌}
use Rattle.kinds.specs.declared.flag.Flag.{Flag}
use Rattle.kinds.specs.declared.flag.Flag.TheVariants.{Neither, Zero, One, Both}

-- the members of each of the four
abbrev pub has : Flag → ℕ → Bool
has Neither v = false
has Zero v = v == 0
has One v = v == 1
has Both v = v == 0 || v == 1
