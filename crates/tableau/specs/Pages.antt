-- Words on a page, that is on its settings and its rules.
use Rattle.std.specs.Prelude.{◌≡◌, ℕ, ◌<◌, ◌≤◌, Bool, true, false, ◌||◌, List, map, length, ◌==◌}
use Rattle.std.specs.List.{list_any}
use Rattle.plfd.specs.declared.settings.Setting.{Setting}
use Rattle.plfd.specs.Settings.{domain, setting}
use Rattle.plfd.specs.Formula.{Formula, constant, atom, negation, join, Assignment, named, Keeps, Within, total, all_formed}
use Rattle.plfd.specs.Code.{code}
use Rattle.plfd.specs.Reading.{node_limit}
use Rattle.tableau.specs.Branches.{Sets}

-- a set has a member
abbrev pub Filled : (ℕ → Bool) → Type 0
Filled p = (c : ℕ) × (p c ≡ true)

-- a page as a book can hold it: a setting's number is a byte, each setting has a choice, each rule is well formed, and
-- the nodes are within the limit
pub record Holdable (S : List Setting) (rules : List Formula) : Type 0 where
  pub nameable : length S ≤ 256
  pub choosable : (x : ℕ) → x < length S → Filled (domain (setting S x))
  pub formed : all_formed S rules ≡ true
  pub few : total rules ≤ node_limit

-- no assignment keeps every rule
abbrev pub Unkeepable : List Setting → List Formula → Type 0
Unkeepable S rules = (σ : Assignment) → Within S σ → Keeps σ rules → ⊥

-- a pick of one member from each setting's set
abbrev pub Picks : List Setting → Sets → Assignment → Type 0
Picks S T σ = (x : ℕ) → x < length S → T x (σ x) ≡ true

-- a formula names a setting where an atom of it speaks of the setting
abbrev pub names : ℕ → Formula → Bool
names x (constant b) = false
names x (atom a) = x == named a
names x (negation f) = names x f
names x (join k f g) = names x f || names x g

-- and some rule of several names it
abbrev pub named_by : List Formula → ℕ → Bool
named_by fs x = list_any (names x) fs

-- equal codes stand in the same order, and the settings that they name were declared alike, whatever else is declared
pub record SameRules (S : List Setting) (rules : List Formula) (S' : List Setting) (rules' : List Formula) : Type 0 where
  pub codes : map code rules ≡ map code rules'
  pub declared : (x : ℕ) → named_by rules x ≡ true → setting S x ≡ setting S' x
