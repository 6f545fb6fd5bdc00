-- The faults of a tape: the number of each, and how a refusal of the tape says it.
use Rattle.std.specs.Prelude.{ℕ}
use Rattle.plfd.specs.Answers.{Reason, reason_at}
use Rattle.tableau.specs.declared.faults.TapeFault.{TapeFault}
use Rattle.tableau.specs.declared.faults.TapeFault.TheVariants.{UnknownCommand, CutShort, NotThere, Misfit, SetNotEmpty, BranchFull, TrailingByte, BranchOpen}

-- each fault's number
abbrev pub fault_number : TapeFault → ℕ
fault_number UnknownCommand = 23
fault_number CutShort = 24
fault_number NotThere = 25
fault_number Misfit = 26
fault_number SetNotEmpty = 27
fault_number BranchFull = 28
fault_number TrailingByte = 29
fault_number BranchOpen = 30

-- every fault names an offset: that of its command, or the tape's length where a branch is open at its end
abbrev pub tape_fault : TapeFault → ℕ → Reason
tape_fault f at = reason_at (fault_number f) at
