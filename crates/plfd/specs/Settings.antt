-- Settings and their choices.
use Rattle.std.specs.Prelude.{ℕ, Bool, List, nat_lt, slice_index_or}
use Rattle.plfd.specs.declared.settings.Setting.{Setting}

-- which choices a setting has
abbrev pub domain : Setting → ℕ → Bool
domain s v = nat_lt v s.size

-- a setting that was not declared: it has no choice
abbrev pub undeclared : Setting
undeclared = record { size = 0 }

-- the setting of that number
abbrev pub setting : List Setting → ℕ → Setting
setting S x = slice_index_or S x undeclared
