-- The order of the refusals, and the commands of a rule's nodes as its code.
use Rattle.std.proofs.Common.{arith}
use Rattle.std.proofs.lemmas.Bool.Decides.{nat_tests}
use Rattle.book.proofs.Ends.{rules_count}
use Rattle.book.proofs.Written.{rule_code}
use Rattle.book.proofs.book.Book.write_out.Goals as goal

pub returns-then-rule-len : goal.returns-then-rule-len
returns-then-rule-len c = grind (arith, nat_tests, rules_count c.args.self.now)

pub returns-then-buffer-code_length : goal.returns-then-buffer-code_length
returns-then-buffer-code_length c =
    let b = c.args.self.now in
    let code = c.nodes_of_rule-nodes.ensures.value in
    grind (arith, nat_tests, rules_count b, rule_code b c.args.rule)

pub returns : goal.returns
returns c =
    let b = c.args.self.now in
    grind (arith, nat_tests, rules_count b, rule_code b c.args.rule)
