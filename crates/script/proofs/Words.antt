-- The words of bytes: one more of them in an array, all of them one behind the other, and that they are ASCII.
use Rattle.std.proofs.Common.{◌≡◌, ℕ, zero, suc, ◌+◌, ◌/◌, ◌%◌, ◌^◌, ◌<◌, List, [], ◌∷◌, ◌++◌, map, length, get_or, take, set, slice_index, sym, ap, ◌∙◌, arith}
use Rattle.std.proofs.lemmas.Bool.Decides.{nat_tests}
use Rattle.std.proofs.lemmas.List.{take_all, take_more, take_more_set, map-append}
use Rattle.std.proofs.lemmas.List.Folds.{flat_map-map}
use Rattle.std.proofs.lemmas.Str.{IsAscii-append}
use Rattle.std.proofs.lemmas.Str.Ascii.{IsAscii-nil}
use Rattle.std.specs.Char.{digit_char}
use Rattle.std.specs.List.{flat_map}
use Rattle.std.specs.Str.{IsAscii}
use Rattle.script.specs.Saying.{hex_word}

digit_small : (d : ℕ) → d < 16 → digit_char d < 128
digit_small d h = grind (arith, nat_tests)

word_ascii : (b : ℕ) → b < 2 ^ 8 → IsAscii (hex_word b)
word_ascii b h zero = omega arith
word_ascii b h (suc zero) = digit_small (b / 16) (omega arith)
word_ascii b h (suc (suc zero)) = digit_small (b % 16) (omega arith)
word_ascii b h (suc (suc (suc i))) = omega arith

pub words_ascii : (bs : List ℕ) → ((i : ℕ) → slice_index bs i < 2 ^ 8) → IsAscii (flat_map hex_word bs)
words_ascii [] h = IsAscii-nil
words_ascii (b ∷ bs) h = IsAscii-append (hex_word b) (flat_map hex_word bs) (word_ascii b (h 0)) (words_ascii bs (λ i. h (suc i)))

module _ (bs : List ℕ) (words : List (List ℕ)) (i : ℕ) (so_far : take i words ≡ map hex_word (take i bs)) where
  pub one_more : i < length bs → i < length words → take (i + 1) (set words i (hex_word (get_or bs i 0))) ≡ map hex_word (take (i + 1) bs)
  one_more h l =
      let word = hex_word (get_or bs i 0) in
      take_more_set words i word l ∙ ap (λ ws. ws ++ word ∷ []) so_far
      ∙ sym (map-append hex_word (take i bs) (get_or bs i 0 ∷ []))
      ∙ ap (map hex_word) (sym (take_more bs i 0 h))

  pub all_words : i ≡ length bs → flat_map (λ w. w) (take (length bs) words) ≡ flat_map hex_word bs
  all_words e =
      ap (λ n. flat_map (λ w. w) (take n words)) (sym e) ∙ ap (flat_map (λ w. w)) (so_far ∙ ap (map hex_word) (take_all i bs (omega (arith, e))))
      ∙ flat_map-map (λ w. w) hex_word bs
