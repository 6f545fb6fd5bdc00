-- Each fault in plain words.
use Rattle.std.specs.Prelude.{ℕ, List, codes}
use Rattle.plfd.specs.declared.faults.CodeFault.{CodeFault}
use Rattle.plfd.specs.declared.faults.CodeFault.TheVariants.{Empty, UnknownCommand, CutShort, UndeclaredSetting, NoSuchChoice, TooFewFormulas, TooManyFormulas, NodesFull}

abbrev pub fault_words : CodeFault → List ℕ
fault_words Empty = codes "the code is empty"
fault_words UnknownCommand = codes "unknown command"
fault_words CutShort = codes "the command is cut short"
fault_words UndeclaredSetting = codes "the setting is not declared"
fault_words NoSuchChoice = codes "the setting has no such choice, or the range runs backwards"
fault_words TooFewFormulas = codes "the command takes more formulas than there are"
fault_words TooManyFormulas = codes "more than one formula is left at the end"
fault_words NodesFull = codes "1,024 nodes are in use already"
