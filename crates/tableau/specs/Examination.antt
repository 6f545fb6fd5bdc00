-- The examination: bytes read as one tableau, command by command; the number of commands, or the first fault with its offset.
use Rattle.std.specs.Prelude.{ℕ, zero, suc, ◌+◌, Bool, false, if◌then◌else◌, not, List, [], ◌∷◌, ◌++◌, length, Some, None, Option, ◌==◌, nat_le, nat_lt, slice_index}
use Rattle.std.specs.List.{list_all}
use Rattle.plfd.specs.declared.settings.Setting.{Setting}
use Rattle.plfd.specs.Answers.{Answer, given, refused, and_then, Check, ◌⇒◌, unless}
use Rattle.plfd.specs.Formula.{Formula}
use Rattle.plfd.specs.Reading.{pair}
use Rattle.tableau.specs.declared.commands.Move.TheVariants.{Append, Split, Narrow, Clash}
use Rattle.tableau.specs.declared.commands.Command.{Command}
use Rattle.tableau.specs.declared.commands.Command.TheVariants.{Expand, Empty}
use Rattle.tableau.specs.declared.faults.TapeFault.TheVariants.{UnknownCommand, CutShort, NotThere, Misfit, SetNotEmpty, BranchFull, TrailingByte, BranchOpen}
use Rattle.tableau.specs.Branches.{Branch, fits, start, asked, expand, empty}
use Rattle.tableau.specs.Tape.{takes}
use Rattle.tableau.specs.Faults.{tape_fault}

-- the command of a command byte whose operand is at the front of bs; other bytes are no commands
abbrev pub command_of : ℕ → List ℕ → Option Command
command_of byte bs =
    if byte == 0x20 then Some (Expand Append (pair bs 0))
    else if byte == 0x21 then Some (Expand Split (pair bs 0))
    else if byte == 0x22 then Some (Expand Narrow (pair bs 0))
    else if byte == 0x23 then Some (Expand Clash (pair bs 0))
    else if byte == 0x24 then Some (Empty (slice_index bs 0))
    else None

-- how many bytes follow the command byte
abbrev pub operands : Command → ℕ
operands (Expand m k) = 2
operands (Empty x) = 1

-- why a command at the offset `at` is not read, where bs are the bytes behind its command byte
abbrev pub operand_checks : ℕ → List ℕ → Command → List Check
operand_checks at bs m = nat_lt (length bs) (operands m) ⇒ tape_fault CutShort at ∷ []

-- the command, if it is one and whole
abbrev pub if_whole : ℕ → List ℕ → Option Command → Answer Command
if_whole at bs None = refused (tape_fault UnknownCommand at)
if_whole at bs (Some m) = unless (operand_checks at bs m) (given m)

-- the command names an entry that the branch does not have, or a setting that the page does not have
abbrev pub names_none : List Setting → Branch → Command → Bool
names_none S b (Expand m k) = nat_le (length b.entries) k
names_none S b (Empty x) = nat_le (length S) x

-- the entry does not take the command
abbrev pub misfits : Branch → Command → Bool
misfits b (Expand m k) = not (takes (asked b k) m)
misfits b (Empty x) = false

-- the set that should be empty has a member
abbrev pub has_members : List Setting → Branch → Command → Bool
has_members S b (Expand m k) = false
has_members S b (Empty x) = not (empty S b.sets x)

-- the branches that take the branch's place
abbrev pub obeyed : Branch → Command → List Branch
obeyed b (Expand m k) = expand (asked b k) b
obeyed b (Empty x) = []

-- each branch is within the limits
abbrev pub all_fit : List Branch → Bool
all_fit bs = list_all fits bs

-- why a command is not done to a branch
abbrev pub command_checks : List Setting → Branch → ℕ → Command → List Check
command_checks S b at m =
    names_none S b m ⇒ tape_fault NotThere at ∷
    misfits b m ⇒ tape_fault Misfit at ∷
    has_members S b m ⇒ tape_fault SetNotEmpty at ∷
    not (all_fit (obeyed b m)) ⇒ tape_fault BranchFull at ∷ []

-- command after command: `done` are read so far, of the next bytes `skip` are operands that were read with their
-- command, and the last argument is the open branches, the first in hand
abbrev pub examining : List Setting → ℕ → ℕ → ℕ → List ℕ → List Branch → Answer ℕ
examining S done at skip [] [] = given done
examining S done at skip [] (b ∷ bs) = refused (tape_fault BranchOpen at)
examining S done at (suc skip) (byte ∷ t) branches = examining S done (suc at) skip t branches
examining S done at zero (byte ∷ t) [] = refused (tape_fault TrailingByte at)
examining S done at zero (byte ∷ t) (b ∷ bs) =
    and_then (if_whole at t (command_of byte t))
    (λ m. unless (command_checks S b at m) (examining S (done + 1) (suc at) (operands m) t (obeyed b m ++ bs)))

-- the whole tape, from the walk's start
abbrev pub examination : List Setting → List Formula → List ℕ → Answer ℕ
examination S rules t = examining S 0 0 0 t (start S rules ∷ [])
