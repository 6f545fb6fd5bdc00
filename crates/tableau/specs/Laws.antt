-- What is proved of the walk, the closed tableau and the examination, over a page: its settings and its rules.
use Rattle.std.specs.Prelude.{◌≡◌, ℕ, ◌-◌, ◌^◌, ◌<◌, ◌≤◌, Bool, true, false, ◌↔◌, List, [], ◌∷◌, length}
use Rattle.plfd.specs.declared.settings.Setting.{Setting}
use Rattle.plfd.specs.Answers.{given}
use Rattle.plfd.specs.Formula.{Formula, Assignment, Keeps, Within, total}
use Rattle.plfd.specs.Exact.{Bytes}
use Rattle.tableau.specs.Branches.{Sets, Branch, branch_limit, fits, start}
use Rattle.tableau.specs.Walk.{Position, ◌at◌, Outcome, found, none, spent, reached, walk, is_none, is_spent, steps, sets_of, tape_of}
use Rattle.tableau.specs.Pages.{Filled, Holdable, Unkeepable, Picks, named_by, SameRules}
use Rattle.tableau.specs.Tableau.{Closed, command_count}
use Rattle.tableau.specs.Examination.{examination}

-- ---- the walk decides

-- no setting's set is empty, and every pick of one member from each is an assignment that keeps the rules
pub record Keeping (S : List Setting) (rules : List Formula) (T : Sets) : Type 0 where
  pub filled : (x : ℕ) → x < length S → Filled (T x)
  pub kept : (σ : Assignment) → Picks S T σ → Within S σ × Keeps σ rules

-- what is found keeps the rules
abbrev pub Finding : List Setting → List Formula → Outcome → Type 0
Finding S rules (found T k) = Keeping S rules T
Finding S rules (none t k) = Unit {0}
Finding S rules (spent k) = Unit {0}

-- none exactly where no assignment keeps every rule, and what is found keeps them
pub record Decided (S : List Setting) (rules : List Formula) (o : Outcome) : Type 0 where
  pub none_exactly : is_spent o ≡ false → (is_none o ≡ true) ↔ Unkeepable S rules
  pub finding : Finding S rules o

-- a walk that is not spent decides whether an assignment keeps every rule
abbrev pub WalkDecides : Type 0
WalkDecides = (S : List Setting) (rules : List Formula) (allowance : ℕ) → Holdable S rules → Decided S rules (walk S rules allowance)

-- ---- steps

-- the steps never pass the allowance, and a walk is spent only with all of it; 2 ^ w - 1 steps are enough for w nodes
pub record Allowed (rules : List Formula) (allowance : ℕ) (o : Outcome) : Type 0 where
  pub within : steps o ≤ allowance
  pub spent_with_all : is_spent o ≡ true → steps o ≡ allowance
  pub enough : 2 ^ total rules - 1 ≤ allowance → is_spent o ≡ false

-- a walk keeps its allowance, on every page
abbrev pub WalkKeepsItsAllowance : Type 0
WalkKeepsItsAllowance = (S : List Setting) (rules : List Formula) (allowance : ℕ) → Allowed rules allowance (walk S rules allowance)

-- ---- tapes

-- the tape of a none is a closed tableau, and each of its numbers is a byte
abbrev pub NoneIsClosed : Type 0
NoneIsClosed =
    (S : List Setting) (rules : List Formula) (allowance : ℕ) → Holdable S rules → let o = walk S rules allowance in
    is_none o ≡ true → Closed S rules (tape_of o) × Bytes (tape_of o)

-- where bytes are a closed tableau, no assignment keeps every rule
abbrev pub ClosedIsSound : Type 0
ClosedIsSound = (S : List Setting) (rules : List Formula) (t : List ℕ) → Closed S rules t → Unkeepable S rules

-- bytes are accepted with k commands exactly where they are a closed tableau of k commands
abbrev pub ExaminationIsExact : Type 0
ExaminationIsExact =
    (S : List Setting) (rules : List Formula) (t : List ℕ) (k : ℕ) → Bytes t →
    (examination S rules t ≡ given k) ↔ ((c : Closed S rules t) × (command_count c ≡ k))

-- ---- pages with the same rules

-- the same answer after as many steps, with the same tape, and the same sets of the named settings
pub record Alike (named : ℕ → Bool) (o o' : Outcome) : Type 0 where
  pub same_none : is_none o ≡ is_none o'
  pub same_spent : is_spent o ≡ is_spent o'
  pub same_steps : steps o ≡ steps o'
  pub same_tape : tape_of o ≡ tape_of o'
  pub same_sets : (x : ℕ) → named x ≡ true → (c : ℕ) → sets_of o x c ≡ sets_of o' x c

-- pages with the same rules walk alike
abbrev pub SameRulesWalkAlike : Type 0
SameRulesWalkAlike =
    (S S' : List Setting) (rules rules' : List Formula) (allowance : ℕ) → SameRules S rules S' rules' →
    Alike (named_by rules) (walk S rules allowance) (walk S' rules' allowance)

-- ---- where a walk ends

-- an outcome and where the walk has come: found, with the sets, where the cursor is past the last entry; none where no
-- branch is left; spent where another step is due
abbrev pub EndsAt : Outcome → List Position → Type 0
EndsAt (found T k) [] = ⊥
EndsAt (found T k) (b at c ∷ ps) = (length b.entries ≤ c) × (b.sets ≡ T)
EndsAt (none t k) ps = ps ≡ []
EndsAt (spent k) [] = ⊥
EndsAt (spent k) (b at c ∷ ps) = c < length b.entries

-- a walk ends where as many turns lead as it has steps
abbrev pub WalkEndsWhereItSays : Type 0
WalkEndsWhereItSays =
    (S : List Setting) (rules : List Formula) (allowance : ℕ) → let o = walk S rules allowance in
    EndsAt o (reached S (steps o) (start S rules at 0 ∷ []))

-- ---- limits

-- how many positions wait behind the one in hand
abbrev pub waiting : List Position → ℕ
waiting [] = 0
waiting (p ∷ ps) = length ps

-- each position has the property
abbrev pub Each : (Branch → ℕ → Type 0) → List Position → Type 0
Each P [] = Unit {0}
Each P (b at c ∷ ps) = P b c × Each P ps

-- the splits that wait, and each branch, are within the limit
pub record Limited (ps : List Position) : Type 0 where
  pub splits : waiting ps ≤ branch_limit
  pub branches : Each (λ b c. fits b ≡ true) ps

-- wherever a walk has come, its entries, narrowings and waiting splits are within the limit
abbrev pub WalkStaysWithinLimits : Type 0
WalkStaysWithinLimits =
    (S : List Setting) (rules : List Formula) → Holdable S rules → (k : ℕ) → Limited (reached S k (start S rules at 0 ∷ []))

-- a tableau's length can be counted: with at most 2 ^ 60 steps it stays below 2 ^ 63
abbrev pub TapeStaysShort : Type 0
TapeStaysShort = (S : List Setting) (rules : List Formula) (allowance : ℕ) → allowance ≤ 2 ^ 60 → length (tape_of (walk S rules allowance)) < 2 ^ 63
