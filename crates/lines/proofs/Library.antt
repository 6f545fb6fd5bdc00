-- What a line's words and operands are, in the library's words.
use Rattle.std.proofs.Common.{◌≡◌, ℕ, List, [], ◌∷◌, Some, None, true, ◌<◌, get_or, Option, length, not, ◌==◌, refl, sym, ap, ◌∙◌, arith, rules}
use Rattle.std.specs.Borrow.{Bor}
use Rattle.std.specs.Char.{digit_value}
use Rattle.std.specs.List.{slice_split, filter, join_by}
use Rattle.std.specs.List as lists
use Rattle.std.specs.Option.{SomeIff}
use Rattle.std.specs.Str.{all_ascii_digits}
use Rattle.std.proofs.lemmas.Bool.Decides.{nat_tests}
use Rattle.std.proofs.lemmas.Grind.{common_steps}
use Rattle.std.proofs.lemmas.List.Folds.{flat_map-map}
use Rattle.std.proofs.lemmas.Str.Parse.{IsNumeralModel, numerals_by_fold, tells_all_ascii_digits}
use Rattle.lines.specs.Operands.{digit_of, byte_from, byte_of, read_on}
use Rattle.lines.specs.Words.{texts, onto_first, pieces, filled, words_of, spaced}

-- a hexadecimal digit's value is std's `digit_value`, where that is below 16
digit_read : (c : ℕ) (r : Option ℕ) → SomeIff r (digit_value c < 16) (digit_value c) → r ≡ digit_of c
digit_read c None h = grind (arith, common_steps, nat_tests)
digit_read c (Some d) h = grind (arith, common_steps, nat_tests)

-- a word of two bytes, where r is the value of the first
module _ (word : List ℕ) (high : ℕ) (r : Option ℕ) (two : length word ≡ 2) (first : get_or word 0 0 ≡ high) (is_high : SomeIff r (digit_value high < 16) (digit_value high)) where
  high_read : byte_of word ≡ byte_from r (digit_of (get_or word 1 0))
  high_read = of_two word two ∙ ap (λ d. byte_from d (digit_of (get_or word 1 0))) (ap digit_of first ∙ sym (digit_read high r is_high))
    where
      of_two : (bs : List ℕ) → length bs ≡ 2 → byte_of bs ≡ byte_from (digit_of (get_or bs 0 0)) (digit_of (get_or bs 1 0))
      of_two [] e = grind arith
      of_two (a ∷ []) e = grind arith
      of_two (a ∷ b ∷ []) e = refl
      of_two (a ∷ b ∷ c ∷ cs) e = grind arith

  pub byte_read : (low : ℕ) (s : Option ℕ) → get_or word 1 0 ≡ low → SomeIff s (digit_value low < 16) (digit_value low) → byte_of word ≡ byte_from r s
  byte_read low s second is_low = high_read ∙ ap (byte_from r) (ap digit_of second ∙ sym (digit_read low s is_low))

  pub no_byte : r ≡ None → byte_of word ≡ None
  no_byte none = high_read ∙ ap (λ d. byte_from d (digit_of (get_or word 1 0))) none

-- on decimal digits, the number that is read is std's `digits_value`
pub numerals : IsNumeralModel (λ ds. all_ascii_digits ds ≡ true) (read_on 0)
numerals = numerals_by_fold _ tells_all_ascii_digits read_on (search rules)

onto_first_same : (b : ℕ) (ps : List (List ℕ)) → onto_first b ps ≡ lists.onto_first b ps
onto_first_same b [] = refl
onto_first_same b (p ∷ ps) = refl

pieces_split : (bs : List ℕ) → pieces bs ≡ slice_split (λ b. b == 32) bs
pieces_split [] = refl
pieces_split (b ∷ bs) = let rest = pieces_split bs in grind (arith, common_steps, rest, onto_first_same)

filled_filter : (ps : List (List ℕ)) → filled ps ≡ filter (λ p. not (length p == 0)) ps
filled_filter [] = refl
filled_filter ([] ∷ ps) = filled_filter ps
filled_filter ((b ∷ p) ∷ ps) = let rest = filled_filter ps in grind (arith, common_steps, nat_tests, rest)

-- the words of a line are std's split at the spaces, filtered
pub words_split : (line : List ℕ) → words_of line ≡ filter (λ p. not (length p == 0)) (slice_split (λ b. b == 32) line)
words_split line = filled_filter (pieces line) ∙ ap (filter (λ p. not (length p == 0))) (pieces_split line)

-- std's join with a space is the words with single spaces
pub joined_spaced : (rs : List (Bor (List ℕ))) → join_by (λ r. r.now) (32 ∷ []) rs ≡ spaced (texts rs)
joined_spaced [] = refl
joined_spaced (r ∷ rs) = grind (arith, common_steps, flat_map-map)
