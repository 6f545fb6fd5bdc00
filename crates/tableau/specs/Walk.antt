-- The walk through the branches of a tableau, under an allowance of steps.
use Rattle.std.specs.Prelude.{ℕ, zero, suc, Bool, true, false, if◌then◌else◌, List, [], ◌∷◌, ◌++◌, map, length, Some, None, nat_lt}
use Rattle.plfd.specs.declared.settings.Setting.{Setting}
use Rattle.plfd.specs.declared.nodes.Atom.{Atom}
use Rattle.plfd.specs.Formula.{Formula, named}
use Rattle.tableau.specs.declared.commands.Move.TheVariants.{Narrow}
use Rattle.tableau.specs.declared.commands.Command.{Command}
use Rattle.tableau.specs.declared.commands.Command.TheVariants.{Expand, Empty}
use Rattle.tableau.specs.Asks.{Asks, nothing, clash, narrow, append, split}
use Rattle.tableau.specs.Branches.{Sets, Branch, start, asked, narrowed, expand, empty}
use Rattle.tableau.specs.Tape.{tape, due}

-- a branch and its cursor: the entries before the cursor got what they ask for
infix 70 ◌at◌
pub data Position : Type 0 where
  ◌at◌ : Branch → ℕ → Position

-- what a step tells the tape, and the positions that take the place of its own, the left one first
pub record Step : Type 0 where
  pub commands : List Command
  pub next : List Position

-- the tape is told of an entry by the move that is due
abbrev pub told : Asks → ℕ → List Command
told a c = elim (due a) [ None ↦ [] | Some m ↦ Expand m c ∷ [] ]

-- entry c gets what it asks for, and the cursor moves on
abbrev pub passed : Branch → ℕ → Asks → Step
passed b c a = record { commands = told a c; next = map (λ d. d at suc c) (expand a b) }

-- entry c has emptied the set of its atom's setting, and the branch closes
abbrev pub closing : ℕ → Atom → Step
closing c a = record { commands = Expand Narrow c ∷ Empty (named a) ∷ []; next = [] }

-- a step: entry c gets what it asks for, but a branch closes at once where a set that is narrowed has become empty
abbrev pub step : List Setting → Branch → ℕ → Asks → Step
step S b c nothing = passed b c nothing
step S b c clash = passed b c clash
step S b c (narrow a s) =
    if empty S (narrowed a s b.sets) (named a) then closing c a else passed b c (narrow a s)
step S b c (append es) = passed b c (append es)
step S b c (split l r) = passed b c (split l r)

-- a step at the entry under the cursor, before the positions that wait, the latest first: where no branch takes the
-- place of a closed one, the latest that waits goes on from what its split found
abbrev pub turn : List Setting → Branch → ℕ → List Position → Step
turn S b c waiting = let s = step S b c (asked b c) in record { commands = s.commands; next = s.next ++ waiting }

-- found, with the sets; none, with the tape; spent: another step is due and the allowance is used up. All with the steps
pub data Outcome : Type 0 where
  found : Sets → ℕ → Outcome
  none : List ℕ → ℕ → Outcome
  spent : ℕ → Outcome

-- an outcome as it is seen from one step before
abbrev pub after : List Command → Outcome → Outcome
after ms (found T k) = found T (suc k)
after ms (none t k) = none (tape ms ++ t) (suc k)
after ms (spent k) = spent (suc k)

-- the walk from its positions on, of which the first is in hand, with so many steps allowed: none where no branch is
-- left, found where the cursor is past the last entry, else a step
abbrev pub walk_on : List Setting → ℕ → List Position → Outcome
walk_on S n [] = none [] 0
walk_on S zero (b at c ∷ ps) = if nat_lt c (length b.entries) then spent 0 else found b.sets 0
walk_on S (suc n) (b at c ∷ ps) =
    let t = turn S b c ps in
    if nat_lt c (length b.entries) then after t.commands (walk_on S n t.next) else found b.sets 0

-- the walk over a page
abbrev pub walk : List Setting → List Formula → ℕ → Outcome
walk S rules allowance = walk_on S allowance (start S rules at 0 ∷ [])

-- one turn of all positions together; where the walk has ended they stay
abbrev pub advanced : List Setting → List Position → List Position
advanced S [] = []
advanced S (b at c ∷ ps) = if nat_lt c (length b.entries) then (turn S b c ps).next else b at c ∷ ps

-- the positions after k turns
abbrev pub reached : List Setting → ℕ → List Position → List Position
reached S zero ps = ps
reached S (suc k) ps = reached S k (advanced S ps)

-- ---- what an outcome tells

-- whether it is none, and whether it is spent
abbrev pub is_none : Outcome → Bool
is_none (found T k) = false
is_none (none t k) = true
is_none (spent k) = false

abbrev pub is_spent : Outcome → Bool
is_spent (found T k) = false
is_spent (none t k) = false
is_spent (spent k) = true

-- the steps
abbrev pub steps : Outcome → ℕ
steps (found T k) = k
steps (none t k) = k
steps (spent k) = k

-- the sets of what was found, and the tape of a none; else there is no member and no byte
abbrev pub sets_of : Outcome → Sets
sets_of (found T k) = T
sets_of (none t k) = λ x c. false
sets_of (spent k) = λ x c. false

abbrev pub tape_of : Outcome → List ℕ
tape_of (found T k) = []
tape_of (none t k) = t
tape_of (spent k) = []
