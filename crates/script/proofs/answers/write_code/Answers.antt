-- Piece by piece behind the word `code`.
use Rattle.std.proofs.Common.{ℕ, List, [], ◌++◌, sym, refl, ap, ◌∙◌, rules, append_assoc, append-nil}
use Rattle.std.proofs.Output.{has_written_append, has_written_of_eq}
use Rattle.std.proofs.lemmas.Grind.{flat_map-append}
use Rattle.std.proofs.lemmas.List.{nil_from_length}
use Rattle.std.specs.List.{flat_map}
use Rattle.std.specs.Slice.Iter.{chunks_rest}
use Rattle.script.specs.Saying.{hex_word}
use Rattle.script.proofs.answers.write_code.Goals as goal

pub loop-piece-init : goal.loop-piece-init
loop-piece-init g c = (search rules, tt, search rules, λ plain. ([], search rules, search rules))

pub loop-piece-preserved : goal.loop-piece-preserved
loop-piece-preserved g c =
    let piece = c.in-Some.piece.now in
    let steps = c.in-Some.ensures.steps in (
      search rules,
      tt,
      steps.0 ∙ c.loop-piece.invariant.2,
      λ plain.
          let so_far = c.loop-piece.invariant.3 plain in (
            so_far.0 ++ c.spell.result.now,
            has_written_append _ _ _ _ _ _ so_far.1 (search rules),
            append_assoc so_far.0 _ _
                ∙ ap (λ (words : List ℕ). so_far.0 ++ words)
                (ap (λ (words : List ℕ). words ++ flat_map hex_word (chunks_rest c.next.new.self)) c.spell.ensures.value
                ∙ sym (flat_map-append hex_word piece (chunks_rest c.next.new.self))
                ∙ ap (flat_map hex_word) (sym steps.1.0))
                ∙ so_far.2,
          ),
    )

pub returns : goal.returns
returns g c = record {
  writes = λ plain _.
      let word = c.in_ok-write_str.ensures.writes plain refl in
      let so_far = c.loop-piece.invariant.3 (search rules) in
      let none = nil_from_length _ c.in-None.ensures.steps.1.0 in
      let all = sym (append-nil so_far.0) ∙ ap (λ (rest : List ℕ). so_far.0 ++ flat_map hex_word rest) (sym none) ∙ so_far.2 in
      has_written_append _ _ _ _ _ _ word (has_written_of_eq _ _ _ _ _ all so_far.1);
}
