-- The nodes are in order with one more.
use Rattle.book.proofs.Growth.{spans_more, supplied_more}
use Rattle.book.proofs.nodes.Nodes.push.Goals as goal

pub invariant_of-self-clause-spans : goal.invariant_of-self-clause-spans
invariant_of-self-clause-spans c =
    rw (c.push.ensures.value, c.span_of-span.ensures.value) (spans_more c.args.self.now.placed c.args.node c.args.self.now.spans)

pub invariant_of-self-clause-supplied : goal.invariant_of-self-clause-supplied
invariant_of-self-clause-supplied c =
    rw (c.push.ensures.value, c.span_of-span.ensures.value) (supplied_more c.args.self.now.placed c.args.node c.requires.enough c.args.self.now.supplied)
