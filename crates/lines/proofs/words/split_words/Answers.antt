-- The pieces between the spaces, without the empty ones.
use Rattle.std.proofs.Common.{List, ℕ, sym, ◌∙◌, eqb, not, length, lit<, rules, tests}
use Rattle.std.proofs.lemmas.Iterator.Consumers.{YieldsList-at, YieldsList-from_filter, map_from_collect}
use Rattle.std.proofs.lemmas.Iterator.Splits.{YieldsList-from_str_split}
use Rattle.std.proofs.lemmas.Result.{IfOk-weaker}
use Rattle.lines.proofs.Library.{words_split}
use Rattle.lines.proofs.words.split_words.Goals as goal

pub returns : goal.returns
returns c =
    let line = c.args.line.now in
    let cut = YieldsList-from_str_split 32 line (lit< tt) c.split.ensures.text c.split.ensures.has_more c.split.ensures.pattern in
    let kept = map_from_collect _ c.collect.ensures.ran (YieldsList-from_filter _ (λ (piece : List ℕ). not (eqb (length piece) 0)) (YieldsList-at c.filter.ensures.source cut) c.filter.ensures.closure (λ x r q k. search (rules, tests))) in
    record { words = IfOk-weaker c.collect.result _ _ (λ v e. e ∙ sym (words_split line)) kept }
