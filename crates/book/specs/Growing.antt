-- Nodes that a code adds to those that stand.
use Rattle.std.specs.Prelude.{◌≡◌, ℕ, List, [], ◌∷◌, ◌++◌, Ok, Err, Result}
use Rattle.plfd.specs.declared.settings.Setting.{Setting}
use Rattle.plfd.specs.declared.nodes.Node.{Node}
use Rattle.plfd.specs.declared.faults.CodeRefusal.{CodeRefusal}
use Rattle.plfd.specs.Answers.{Reason, Answer, given, refused}
use Rattle.plfd.specs.Formula.{Formula}
use Rattle.plfd.specs.Faults.{fault}
use Rattle.book.specs.declared.nodes.Placed.{Placed}
use Rattle.book.specs.Places.{made, record_of, Fitting}

-- a node was added, unless there was a fault
abbrev pub Added : List Placed → Node → Result ℕ CodeRefusal → List Placed → Type 0
Added ps n (Ok formulas) ps' = ps' ≡ ps ++ record_of ps n ∷ []
Added ps n (Err e) ps' = ps' ≡ ps

-- behind the nodes ps there are more
pub record Behind (ps ps' : List Placed) : Type 0 where
  pub more : List Placed
  pub is : ps' ≡ ps ++ more

-- they make one formula more, and all nodes fit the settings
pub record Grown (S : List Setting) (ps ps' : List Placed) (f : Formula) : Type 0 where
  pub behind : Behind ps ps'
  pub one : made ps' ≡ f ∷ made ps
  pub fitting : Fitting S ps'

-- the result refuses for this reason
abbrev pub Refuses : Reason → Result (Unit {0}) CodeRefusal → Type 0
Refuses w r = (e : CodeRefusal) × (r ≡ Err e) × (w ≡ fault e.fault e.offset)

-- a formula was read, and its nodes stand behind the others; or there was a fault, and this is left
abbrev pub Tried : Answer Formula → List Setting → List Placed → List Placed → (left : Type 0) → Result (Unit {0}) CodeRefusal → Type 0
Tried (given f) S ps ps' left r = (r ≡ Ok tt) × Grown S ps ps' f
Tried (refused w) S ps ps' left r = Refuses w r × left
