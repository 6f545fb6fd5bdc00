-- Sets of choices, each given by the test of which choices are members.
use Rattle.std.specs.Prelude.{◌≡◌, ℕ, ◌<◌, Bool, true, false, ◌&&◌, Some, None, Option, nat_le}

-- how many choices a kind has at most: there are as many 16-bit numbers
abbrev pub most : ℕ
most = 65536

-- a choice from lo to hi, both included
abbrev pub between : ℕ → ℕ → ℕ → Bool
between lo hi v = nat_le lo v && nat_le v hi

-- no choice is a member
abbrev pub Empty : (ℕ → Bool) → Type 0
Empty p = (v : ℕ) → p v ≡ false

-- m is a member, and none below it is
abbrev pub LeastOf : (ℕ → Bool) → ℕ → Type 0
LeastOf p m = (p m ≡ true) × ((v : ℕ) → v < m → p v ≡ false)

-- the least member where there is one, and none where the set is empty
abbrev pub Least : (ℕ → Bool) → Option ℕ → Type 0
Least p None = Empty p
Least p (Some m) = LeastOf p m
