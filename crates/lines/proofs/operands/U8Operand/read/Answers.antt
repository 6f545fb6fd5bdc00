-- Both digits are read as their values.
use Rattle.std.proofs.Common.{arith, rules}
use Rattle.lines.proofs.Library.{byte_read, no_byte}
use Rattle.lines.proofs.operands.U8Operand.read.Goals as goal

pub returns-in_err-high : goal.returns-in_err-high
returns-in_err-high c =
    let none = no_byte c.args.word.now c.from.result c.to_digit.result (omega arith) (search rules) c.to_digit.ensures.value (search rules) in
    grind (rules, none)

pub returns-in_err-low : goal.returns-in_err-low
returns-in_err-low c =
    let both = byte_read c.args.word.now c.from.result c.to_digit.result (omega arith) (search rules) c.to_digit.ensures.value c.from-2.result c.to_digit-2.result (search rules) c.to_digit-2.ensures.value in
    grind (rules, both)

pub returns : goal.returns
returns c =
    let both = byte_read c.args.word.now c.from.result c.to_digit.result (omega arith) (search rules) c.to_digit.ensures.value c.from-2.result c.to_digit-2.result (search rules) c.to_digit-2.ensures.value in
    grind (rules, both)
