-- The commands of a tape: their bytes, and which one goes with what an entry asks for.
use Rattle.std.specs.Prelude.{ℕ, Bool, false, List, [], ◌∷◌, ◌++◌, Some, None, Option, nat_eq}
use Rattle.plfd.specs.Code.{two_bytes}
use Rattle.tableau.specs.declared.commands.Move.{Move}
use Rattle.tableau.specs.declared.commands.Move.TheVariants.{Append, Split, Narrow, Clash}
use Rattle.tableau.specs.declared.commands.Command.{Command}
use Rattle.tableau.specs.declared.commands.Command.TheVariants.{Expand, Empty}
use Rattle.tableau.specs.Asks.{Asks, nothing, clash, narrow, append, split}

-- the command byte of each move
abbrev pub move_byte : Move → ℕ
move_byte Append = 0x20
move_byte Split = 0x21
move_byte Narrow = 0x22
move_byte Clash = 0x23

-- the bytes of a command: an entry's number has two, the high one first, and a setting's number has one
abbrev pub spelled : Command → List ℕ
spelled (Expand m k) = move_byte m ∷ two_bytes k
spelled (Empty x) = 0x24 ∷ x ∷ []

-- the bytes of commands one behind the other
abbrev pub tape : List Command → List ℕ
tape [] = []
tape (m ∷ ms) = spelled m ++ tape ms

-- the move that goes with what an entry asks for; none goes with nothing
abbrev pub due : Asks → Option Move
due nothing = None
due clash = Some Clash
due (narrow a s) = Some Narrow
due (append es) = Some Append
due (split l r) = Some Split

-- an entry takes a move if it is the one that is due
abbrev pub takes : Asks → Move → Bool
takes a m = elim (due a) [ None ↦ false | Some d ↦ nat_eq (move_byte d) (move_byte m) ]
