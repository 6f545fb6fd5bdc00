-- The left side ends where the right one's span says.
use Rattle.std.proofs.Common.{arith}
use Rattle.book.proofs.Sides.{sides}
use Rattle.book.proofs.nodes.Nodes.left_of.Goals as goal

pub overflow_sub-result : goal.overflow_sub-result
overflow_sub-result c = let s = sides c.args.self.now c.args.end c.requires.within c.requires.sides in grind (arith, s.0)

pub returns : goal.returns
returns c =
    let s = sides c.args.self.now c.args.end c.requires.within c.requires.sides in
    record { place = grind (arith, s.1.place); before = grind (arith, s.1.before); formula = grind (arith, s.1.formula) }
