-- The truth at a place, from the truth where its sides end.
use Rattle.std.proofs.Common.{ap, arith}
use Rattle.plfd.specs.Formula.{truth}
use Rattle.promises.specs.Judging.{chosen}
use Rattle.book.proofs.Judged.{at_constant, at_atom, at_not, at_join}
use Rattle.book.proofs.judge.Judgement.+truth_at.Goals as goal

pub returns-in-Constant : goal.returns-in-Constant
returns-in-Constant t c =
    let j = c.args.self.now in
    let is = rw c.as_slice.ensures.value at c.in-Constant.is in
    grind (arith, ap (truth (chosen j.row.now)) (at_constant j.book.now _ c.requires.within _ is))

pub returns-in-Atomic : goal.returns-in-Atomic
returns-in-Atomic t c =
    let j = c.args.self.now in
    let is = rw c.as_slice.ensures.value at c.in-Atomic.is in
    grind (arith, ap (truth (chosen j.row.now)) (at_atom j.book.now _ c.requires.within _ is).0)

pub returns-in-Not : goal.returns-in-Not
returns-in-Not t c =
    let j = c.args.self.now in
    let is = rw c.as_slice.ensures.value at c.in-Not.is in
    grind (arith, ap (truth (chosen j.row.now)) (at_not j.book.now _ c.requires.within is).1)

pub returns-in-Join : goal.returns-in-Join
returns-in-Join t c =
    let j = c.args.self.now in
    let is = rw c.as_slice.ensures.value at c.in-Join.is in
    grind (arith, ap (truth (chosen j.row.now)) (at_join j.book.now _ c.requires.within _ is).2)
