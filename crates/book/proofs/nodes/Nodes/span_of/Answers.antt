-- The spans of the sides count nodes that there are, so their sum fits.
use Rattle.std.proofs.Common.{arith}
use Rattle.book.proofs.Sides.{one_span, two_spans}
use Rattle.book.proofs.nodes.Nodes.span_of.Goals as goal

pub overflow_add-result : goal.overflow_add-result
overflow_add-result c = grind (arith, one_span c.args.self.now)

pub overflow_add-result-in-Join : goal.overflow_add-result-in-Join
overflow_add-result-in-Join c = grind (arith, two_spans c.args.self.now)

pub overflow_add-result-in-Join-2 : goal.overflow_add-result-in-Join-2
overflow_add-result-in-Join-2 c = grind (arith, two_spans c.args.self.now)
