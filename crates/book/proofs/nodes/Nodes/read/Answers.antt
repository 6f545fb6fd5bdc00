-- Each turn reads one command and adds one node; the end is judged by how many formulas were made.
use Rattle.std.proofs.Common.{◌≡◌, ◌-◌, ◌+◌, length, drop, sym, ap, ◌∙◌}
use Rattle.plfd.specs.Code.{arity}
use Rattle.plfd.specs.Reading.{commanded}
use Rattle.plfd.proofs.Checks.{passed_stack}
use Rattle.book.proofs.Progress.{next_as}
use Rattle.book.proofs.nodes.Nodes.read.Goals as goal

pub loop-reader-preserved : goal.loop-reader-preserved
loop-reader-preserved c =
    let p = c.loop-reader.invariant.0 in
    let at = c.loop-reader.reader.place in
    let n = c.in_ok-node.node in
    let is = ap (λ bytes. commanded c.args.settings.now at (drop at bytes)) (sym c.loop-reader.invariant.1) ∙ sym c.in_ok-node.ensures.answer in
    let ok = passed_stack c.loop-reader.formulas (length c.loop-reader.self.placed) c.place-offset.result n (sym c.in_ok-formulas.ensures.answer) in
    let formulas : c.in_ok-formulas.formulas ≡ c.loop-reader.formulas - arity n + 1 = (let same = ok.2 in cc) in
    (next_as p n is ok.0 ok.1 _ _ _ c.in_ok-formulas.ensures.placed formulas c.in_ok-node.ensures.place, c.in_ok-node.ensures.bytes ∙ c.loop-reader.invariant.1)
