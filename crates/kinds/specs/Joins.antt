-- Two kinds as one: the choices of the first, then those of the second as far as there are 16-bit numbers.
use Rattle.std.specs.Prelude.{ℕ, ◌+◌, ◌-◌, min, Bool, if◌then◌else◌, ◌&&◌, nat_lt}
use Rattle.kinds.specs.Sets.{most}

-- below `start` the first says which choices are members; from there on the second does, of the choice less `start`
abbrev pub joined : ℕ → (ℕ → Bool) → (ℕ → Bool) → ℕ → Bool
joined start first second v = if nat_lt v start then first v else nat_lt v most && second (v - start)

-- the capacity of a join, from those of its halves
abbrev pub joined_limit : ℕ → ℕ → ℕ
joined_limit m n = min most (m + n)
