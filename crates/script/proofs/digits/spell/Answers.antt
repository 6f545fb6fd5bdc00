-- The words are those of the bytes, and as ASCII they are a text.
use Rattle.std.proofs.Common.{◌+◌, ◌∙◌, ap, set, take, arith, rules}
use Rattle.std.proofs.lemmas.Str.{IsUtf8-from_ascii}
use Rattle.std.specs.List.{flat_map}
use Rattle.script.specs.Saying.{hex_word}
use Rattle.script.proofs.Words.{words_ascii, one_more, all_words}
use Rattle.script.proofs.digits.spell.Goals as goal

pub loop-i-preserved : goal.loop-i-preserved
loop-i-preserved c = (
  search rules,
  ap (λ w. take (c.loop-i.i + 1) (set c.loop-i.words c.loop-i.i w)) c.word.ensures.value
      ∙ one_more c.args.bytes.now c.loop-i.words c.loop-i.i c.loop-i.invariant.1 (search rules) (search rules),
)

pub unreachable-requires : goal.unreachable-requires
unreachable-requires c =
    let words = c.as_flattened.ensures.value ∙ all_words c.args.bytes.now c.loop-i.words c.loop-i.i c.loop-i.invariant.1 (search rules) in
    c.in_default.ensures.cases.0 (rw words (IsUtf8-from_ascii (flat_map hex_word c.args.bytes.now) (words_ascii c.args.bytes.now (λ i. omega (arith, c.type_inv.bytes i)))))

pub returns : goal.returns
returns c = record {
  value = c.in-Ok.ensures.cases.0 ∙ c.as_flattened.ensures.value ∙ all_words c.args.bytes.now c.loop-i.words c.loop-i.i c.loop-i.invariant.1 (search rules);
}
