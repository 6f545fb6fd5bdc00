-- The search of a row for a choice that its setting does not have.
use Rattle.std.specs.Prelude.{◌≡◌, ℕ, ◌<◌, ◌≤◌, List, length, Some, None, Option}
use Rattle.plfd.specs.declared.settings.Setting.{Setting}
use Rattle.plfd.specs.Formula.{Assignment}
use Rattle.promises.specs.Judging.{lowest_outside}

-- the lowest setting whose choice is none of its choices was found, or there is none
abbrev pub FindsLowest : List Setting → Assignment → Option ℕ → Type 0
FindsLowest S σ None = length S ≤ lowest_outside S σ 0
FindsLowest S σ (Some x) = (lowest_outside S σ 0 ≡ x) × (x < length S)
