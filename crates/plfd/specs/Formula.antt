-- Formulas over settings: what they are, when they are true, where they are well formed.
use Rattle.std.specs.Prelude.{◌≡◌, ℕ, ◌+◌, ◌<◌, Bool, true, not, ◌&&◌, ◌||◌, List, [], ◌∷◌, length, ◌==◌, nat_le, nat_lt}
use Rattle.std.specs.List.{list_all}
use Rattle.std.specs.Bool.{beq}
use Rattle.plfd.specs.declared.settings.Setting.{Setting}
use Rattle.plfd.specs.declared.nodes.Atom.{Atom}
use Rattle.plfd.specs.declared.nodes.Atom.TheVariants.{Is, Range}
use Rattle.plfd.specs.declared.nodes.Connective.{Connective}
use Rattle.plfd.specs.declared.nodes.Connective.TheVariants.{And, Or, Implies, Iff}
use Rattle.plfd.specs.Settings.{domain, setting}

-- true or false, an atom, a denied side, or two sides that a connective joins
pub data Formula : Type 0 where
  constant : Bool → Formula
  atom : Atom → Formula
  negation : Formula → Formula
  join : Connective → Formula → Formula → Formula
  deriving IsSet as Formula-set

-- the setting that an atom speaks of
abbrev pub named : Atom → ℕ
named (Is x v) = x
named (Range x lo hi) = x

-- the choices of it that make the atom true
abbrev pub covers : Atom → ℕ → Bool
covers (Is x v) c = c == v
covers (Range x lo hi) c = nat_le lo c && nat_le c hi

-- the truth of a whole from the truth of its sides
abbrev pub joined : Connective → Bool → Bool → Bool
joined And a b = a && b
joined Or a b = a || b
joined Implies a b = not a || b
joined Iff a b = beq a b

-- an assignment gives each setting a choice
abbrev pub Assignment : Type 0
Assignment = ℕ → ℕ

-- the truth of a formula, by recursion on the formula
abbrev pub truth : Assignment → Formula → Bool
truth σ (constant b) = b
truth σ (atom a) = covers a (σ (named a))
truth σ (negation f) = not (truth σ f)
truth σ (join k f g) = joined k (truth σ f) (truth σ g)

-- an assignment keeps rules: each is true in it
abbrev pub Keeps : Assignment → List Formula → Type 0
Keeps σ [] = Unit {0}
Keeps σ (f ∷ fs) = (truth σ f ≡ true) × Keeps σ fs

-- an assignment gives each declared setting one of its choices
abbrev pub Within : List Setting → Assignment → Type 0
Within S σ = (x : ℕ) → x < length S → domain (setting S x) (σ x) ≡ true

-- the nodes of a formula: one for each command of its code
abbrev pub nodes : Formula → ℕ
nodes (constant b) = 1
nodes (atom a) = 1
nodes (negation f) = nodes f + 1
nodes (join k f g) = nodes f + nodes g + 1

-- the nodes of several formulas
abbrev pub total : List Formula → ℕ
total [] = 0
total (f ∷ fs) = nodes f + total fs

-- an atom speaks of choices that its setting has
abbrev pub choosable : Setting → Atom → Bool
choosable s (Is x v) = domain s v
choosable s (Range x lo hi) = nat_le lo hi && nat_lt hi s.size

-- an atom is well formed over a list of settings: its setting is declared, and has such choices
abbrev pub atom_fits : List Setting → Atom → Bool
atom_fits S a = nat_lt (named a) (length S) && choosable (setting S (named a)) a

-- every atom of the formula is well formed
abbrev pub well_formed : List Setting → Formula → Bool
well_formed S (constant b) = true
well_formed S (atom a) = atom_fits S a
well_formed S (negation f) = well_formed S f
well_formed S (join k f g) = well_formed S f && well_formed S g

-- and every formula of several
abbrev pub all_formed : List Setting → List Formula → Bool
all_formed S fs = list_all (well_formed S) fs
