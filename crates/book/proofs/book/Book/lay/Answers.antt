-- The book is in order after a rule was laid and after a refusal, and the page is as the relations say.
use Rattle.std.proofs.Common.{◌<◌, [], ◌∷◌, ◌++◌, length, ap, refl, ◌∙◌, arith, length-append}
use Rattle.std.proofs.lemmas.Bool.Decides.{nat_tests}
use Rattle.plfd.specs.Answers.{reason_at}
use Rattle.plfd.specs.Faults.{fault}
use Rattle.plfd.specs.Reading.{read}
use Rattle.book.specs.View.{page_of}
use Rattle.book.proofs.Standing.{in_order, rules_more}
use Rattle.book.proofs.Laid.{tried_no, tried_yes, told_code_refusal, full, not_full, lays, gives_refused, gives_rule}
use Rattle.book.proofs.book.Book.lay.Goals as goal

pub returns-then-is_full : goal.returns-then-is_full
returns-then-is_full c =
    let b = c.args.self.now in
    lays b c.args.code.now c.type_inv.code (gives_refused b c.args.code.now (reason_at 12 0) (page_of b) (full b c.args.code.now (grind (arith, nat_tests))) refl)

pub returns-in_err-lay : goal.returns-in_err-lay
returns-in_err-lay c =
    let b = c.args.self.now in
    let e = c.in_err-lay.field-0.0 in
    let no = tried_no b.settings b.nodes.placed c.lay.new.self.placed (read b.settings (length b.nodes.placed) c.args.code.now) e (rw c.as_slice.ensures.value at c.in_err-lay.ensures.result) in
    let room : length b.ends < 256 = grind (arith, nat_tests) in
    rw (told_code_refusal c.from_residual.result e c.from_residual.ensures.1, no.1)
    (lays b c.args.code.now c.type_inv.code (gives_refused b c.args.code.now (fault e.fault e.offset) (page_of b) (not_full b c.args.code.now room ∙ no.0) refl))

pub invariant_of-self-3 : goal.invariant_of-self-3
invariant_of-self-3 c =
    let b = c.args.self.now in
    let yes = tried_yes b.settings b.nodes.placed c.lay.new.self.placed (read b.settings (length b.nodes.placed) c.args.code.now) (rw c.as_slice.ensures.value at c.in_ok-lay.ensures.result) in
    let order = in_order b c.lay.new.self yes.0 yes.2 in
    let ends = c.push.ensures.value ∙ ap (λ n. b.ends ++ n ∷ []) c.len.ensures.value in
    record {
      few_settings = b.few_settings;
      few_rules = rw ends (grind (arith, nat_tests, length-append));
      few_suppositions = b.few_suppositions;
      fitting = order.fitting;
      met = rw ends order.met;
      rises = rw ends order.rises;
      covers = rw ends order.covers;
    }

pub returns : goal.returns
returns c =
    let b = c.args.self.now in
    let yes = tried_yes b.settings b.nodes.placed c.lay.new.self.placed (read b.settings (length b.nodes.placed) c.args.code.now) (rw c.as_slice.ensures.value at c.in_ok-lay.ensures.result) in
    let room : length b.ends < 256 = grind (arith, nat_tests) in
    rw (c.len-rule.ensures.value, rules_more b c.lay.new.self yes.0 yes.2)
    (lays b c.args.code.now c.type_inv.code (gives_rule b c.args.code.now yes.0 _ (not_full b c.args.code.now room ∙ yes.1) refl))
