-- Branches: what they hold, where they start, and what becomes of one when an entry gets what it asks for.
use Rattle.std.specs.Prelude.{ℕ, zero, suc, Bool, true, if◌then◌else◌, not, ◌&&◌, List, [], ◌∷◌, ◌++◌, map, length, ◌==◌, nat_le, slice_index_or}
use Rattle.plfd.specs.declared.settings.Setting.{Setting}
use Rattle.plfd.specs.declared.nodes.Atom.{Atom}
use Rattle.plfd.specs.Settings.{domain, setting}
use Rattle.plfd.specs.Formula.{Formula, constant, named, covers}
use Rattle.tableau.specs.Asks.{Entry, ◌is◌, Asks, nothing, clash, narrow, append, split, asks}

-- one set of choices for each setting, by membership
abbrev pub Sets : Type 0
Sets = ℕ → ℕ → Bool

-- a numbered list of entries, the sets, and how often one of the sets was narrowed
pub record Branch : Type 0 where
  pub entries : List Entry
  pub sets : Sets
  pub narrowings : ℕ

-- the most entries that a branch may have, and the most narrowings
abbrev pub branch_limit : ℕ
branch_limit = 1024

-- a branch is within the limits
abbrev pub fits : Branch → Bool
fits b = nat_le (length b.entries) branch_limit && nat_le b.narrowings branch_limit

-- the start: each rule has to be true, and each set is the setting's whole domain
abbrev pub start : List Setting → List Formula → Branch
start S rules = record { entries = map (λ f. f is true) rules; sets = λ x. domain (setting S x); narrowings = 0 }

-- what entry k of the branch asks for; one that is not there asks for nothing
abbrev pub asked : Branch → ℕ → Asks
asked b k = asks (slice_index_or b.entries k (constant true is true))

-- the atom with its sign allows a choice: one that it covers, or with the sign false one that it does not
abbrev pub allows : Atom → Bool → ℕ → Bool
allows a s c = if s then covers a c else not (covers a c)

-- the set of the atom's setting keeps what is allowed; the others stay as they are
abbrev pub narrowed : Atom → Bool → Sets → Sets
narrowed a s T x = if x == named a then (λ c. T x c && allows a s c) else T x

-- a branch with further entries behind the others
abbrev pub grown : List Entry → Branch → Branch
grown es b = record { entries = b.entries ++ es; sets = b.sets; narrowings = b.narrowings }

-- a branch with a set that is narrowed once more
abbrev pub cut : Atom → Bool → Branch → Branch
cut a s b = record { entries = b.entries; sets = narrowed a s b.sets; narrowings = suc b.narrowings }

-- the branches that take a branch's place when an entry of it gets what it asks for, the left one first
abbrev pub expand : Asks → Branch → List Branch
expand nothing b = b ∷ []
expand clash b = []
expand (narrow a s) b = cut a s b ∷ []
expand (append es) b = grown es b ∷ []
expand (split l r) b = grown l b ∷ grown r b ∷ []

-- no number below n passes the test
abbrev pub none_below : ℕ → (ℕ → Bool) → Bool
none_below zero p = true
none_below (suc n) p = not (p n) && none_below n p

-- the set of setting x is empty: it has only choices of the setting, and they are below its size
abbrev pub empty : List Setting → Sets → ℕ → Bool
empty S T x = none_below (setting S x).size (T x)
