-- The faults of a rule code: the number of each, and how a refusal of the code says it.
use Rattle.std.specs.Prelude.{ℕ, Ok, Err, Result}
use Rattle.plfd.specs.declared.faults.CodeFault.{CodeFault}
use Rattle.plfd.specs.declared.faults.CodeFault.TheVariants.{Empty, UnknownCommand, CutShort, UndeclaredSetting, NoSuchChoice, TooFewFormulas, TooManyFormulas, NodesFull}
use Rattle.plfd.specs.declared.faults.CodeRefusal.{CodeRefusal}
use Rattle.plfd.specs.Answers.{Reason, reason_at, Answer, given, refused}

-- each fault's number
abbrev pub fault_number : CodeFault → ℕ
fault_number Empty = 4
fault_number UnknownCommand = 5
fault_number CutShort = 6
fault_number UndeclaredSetting = 7
fault_number NoSuchChoice = 8
fault_number TooFewFormulas = 9
fault_number TooManyFormulas = 10
fault_number NodesFull = 11

-- every fault names the offset of its command
abbrev pub fault : CodeFault → ℕ → Reason
fault f at = reason_at (fault_number f) at

-- what the code's own results say
abbrev pub told_fault : {A : Type 0} → ℕ → Result A CodeFault → Answer A
told_fault at (Ok a) = given a
told_fault at (Err f) = refused (fault f at)

abbrev pub told_code : {A : Type 0} → Result A CodeRefusal → Answer A
told_code (Ok a) = given a
told_code (Err e) = refused (fault e.fault e.offset)
