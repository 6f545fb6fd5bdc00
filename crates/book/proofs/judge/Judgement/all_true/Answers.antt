-- Each rule is tried at its last node, which there is, until one is false.
use Rattle.std.proofs.Common.{rules, tests, ℕ, Bool, ◌≡◌, ◌-◌, ◌∙◌, true, false, slice_index}
use Rattle.std.proofs.lemmas.Grind.{get_or_default_zero}
use Rattle.std.proofs.lemmas.Iterator.{YieldsList-from_slice, cases_from_all}
use Rattle.std.proofs.lemmas.Iterator.Adapters.{serves_from_places}
use Rattle.plfd.specs.Formula.{truth}
use Rattle.promises.specs.Judging.{chosen}
use Rattle.book.specs.Places.{formula_at}
use Rattle.book.proofs.Ends.{rule_within}
use Rattle.book.proofs.Judged.{decided}
use Rattle.book.proofs.judge.Judgement.all_true.Goals as goal

pub all-requires-clause-callable : goal.all-requires-clause-callable
all-requires-clause-callable c =
    let b = c.args.self.now.book.now in
    serves_from_places (YieldsList-from_slice b.ends cc) (λ x q k. search rules)
    (λ x k h e. let is : x.now ≡ slice_index b.ends k = e ∙ get_or_default_zero b.ends k x.now h in search (rules, is, b.rises k h, rule_within b k h))

pub returns : goal.returns
returns c =
    let j = c.args.self.now in
    let at : ℕ → Bool = λ n. truth (chosen j.row.now) (formula_at j.book.now.nodes.placed (n - 1)) in
    record { value = decided j.book.now (chosen j.row.now) _ (cases_from_all _ _ _ (λ n. at n ≡ true) (λ n. at n ≡ false) c.all.ensures.ran (YieldsList-from_slice j.book.now.ends cc) (λ x q k. search (rules, tests)) (λ x q k. search (rules, tests))) }
