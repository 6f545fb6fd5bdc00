-- Reading a rule code: the formula that it says, or the first fault with its offset.
use Rattle.std.specs.Prelude.{ℕ, zero, suc, ◌+◌, ◌*◌, Bool, true, false, not, List, [], ◌∷◌, length, Some, None, Option, nat_eq, nat_le, nat_lt, slice_index, slice_index_or}
use Rattle.plfd.specs.declared.settings.Setting.{Setting}
use Rattle.plfd.specs.declared.nodes.Atom.TheVariants.{Is, Range}
use Rattle.plfd.specs.declared.nodes.Connective.TheVariants.{And, Or, Implies, Iff}
use Rattle.plfd.specs.declared.nodes.Node.{Node}
use Rattle.plfd.specs.declared.nodes.Node.TheVariants.{Constant, Atomic, Not, Join}
use Rattle.plfd.specs.declared.faults.CodeFault.TheVariants.{Empty, UnknownCommand, CutShort, UndeclaredSetting, NoSuchChoice, TooFewFormulas, TooManyFormulas, NodesFull}
use Rattle.plfd.specs.Answers.{Answer, given, refused, and_then, Check, ◌⇒◌, unless}
use Rattle.plfd.specs.Settings.{setting}
use Rattle.plfd.specs.Formula.{Formula, named, choosable}
use Rattle.plfd.specs.Code.{operands, arity, top, raise}
use Rattle.plfd.specs.Faults.{fault}

-- how many nodes the rules of one book have at most
abbrev pub node_limit : ℕ
node_limit = 1024

-- the two-byte number at a place, its high byte first
abbrev pub pair : List ℕ → ℕ → ℕ
pair bs i = slice_index bs i * 256 + slice_index bs (i + 1)

-- the node of a command byte whose operands are at the front of bs; 00 and what is above 09 are no commands
abbrev pub node_of : ℕ → List ℕ → Option Node
node_of b bs =
    slice_index_or (
    None ∷
    Some (Constant true) ∷
    Some (Constant false) ∷
    Some (Atomic (Is (slice_index bs 0) (pair bs 1))) ∷
    Some (Atomic (Range (slice_index bs 0) (pair bs 1) (pair bs 3))) ∷
    Some Not ∷
    Some (Join And) ∷
    Some (Join Or) ∷
    Some (Join Implies) ∷
    Some (Join Iff) ∷ []
    ) b None

-- the command at the front of the bytes, which lie at the offset `at`
abbrev pub decoded : ℕ → List ℕ → Answer Node
decoded at [] = refused (fault CutShort at)
decoded at (b ∷ bs) =
    elim (node_of b bs) [
      | None ↦ refused (fault UnknownCommand at)
      | Some n ↦ unless (nat_lt (length bs) (operands n) ⇒ fault CutShort at ∷ []) (given n)
    ]

-- an atom over a setting that is not declared
abbrev pub names_undeclared : List Setting → Node → Bool
names_undeclared S (Constant b) = false
names_undeclared S (Atomic a) = nat_le (length S) (named a)
names_undeclared S Not = false
names_undeclared S (Join k) = false

-- an atom over choices that its setting does not have
abbrev pub names_no_choice : List Setting → Node → Bool
names_no_choice S (Constant b) = false
names_no_choice S (Atomic a) = not (choosable (setting S (named a)) a)
names_no_choice S Not = false
names_no_choice S (Join k) = false

-- a node over declared settings
abbrev pub setting_checks : List Setting → ℕ → Node → List Check
setting_checks S at n =
    names_undeclared S n ⇒ fault UndeclaredSetting at ∷
    names_no_choice S n ⇒ fault NoSuchChoice at ∷ []

-- one command and its checks: first it is decoded, then its setting is looked up
abbrev pub commanded : List Setting → ℕ → List ℕ → Answer Node
commanded S at bs = and_then (decoded at bs) (λ n. unless (setting_checks S at n) (given n))

-- a node upon `made` formulas that are read so far, where `used` nodes of the book are taken
abbrev pub stack_checks : ℕ → ℕ → ℕ → Node → List Check
stack_checks made used at n =
    nat_lt made (arity n) ⇒ fault TooFewFormulas at ∷
    nat_le node_limit used ⇒ fault NodesFull at ∷ []

-- at the end there is one formula
abbrev pub end_checks : ℕ → ℕ → List Check
end_checks made at =
    nat_eq made 0 ⇒ fault Empty at ∷
    nat_lt 1 made ⇒ fault TooManyFormulas at ∷ []

-- command after command: s is read so far, and of the next bytes `skip` are operands that were read with their command
abbrev pub reading : List Setting → ℕ → List Formula → ℕ → ℕ → List ℕ → Answer Formula
reading S used s at skip [] = unless (end_checks (length s) at) (given (top s))
reading S used s at (suc skip) (b ∷ bs) = reading S used s (suc at) skip bs
reading S used s at zero (b ∷ bs) =
    and_then (commanded S at (b ∷ bs))
    (λ n. unless (stack_checks (length s) used at n) (reading S (used + 1) (raise s n) (suc at) (operands n) bs))

-- the formula that a whole code says
abbrev pub read : List Setting → ℕ → List ℕ → Answer Formula
read S used bytes = reading S used [] 0 0 bytes
