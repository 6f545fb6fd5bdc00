-- A word without a sign is read as its number.
use Rattle.std.proofs.Common.{◌≡◌, ℕ, ◌^◌, ◌<◌, true, false, List, length, [], ◌∷◌, Result, ◌∙◌, arith}
use Rattle.std.specs.Result.{OkIff, result_ok}
use Rattle.std.specs.Str.{all_ascii_digits}
use Rattle.std.proofs.lemmas.Bool.{false≢true}
use Rattle.std.proofs.lemmas.Bool.Decides.{nat_tests}
use Rattle.std.proofs.lemmas.Grind.{common_steps}
use Rattle.std.proofs.lemmas.Str.Parse.{parse_plain}
use Rattle.std.proofs.lemmas.Str.Pattern.{starts_char}
use Rattle.lines.specs.Operands.{read_on, number_of}
use Rattle.lines.proofs.Library.{numerals}
use Rattle.lines.proofs.operands.U16Operand.read.Goals as goal

number : {E : Type 0} (word : List ℕ) (r : Result ℕ E) → OkIff r ((all_ascii_digits word ≡ true) × (0 < length word) × (read_on 0 word < 2 ^ 16)) (read_on 0 word) → result_ok r ≡ number_of word
number [] r h = grind (arith, common_steps, nat_tests)
number (b ∷ bs) r h = grind (arith, common_steps, nat_tests)

pub returns : goal.returns
returns c =
    let word = c.args.word.now in
    let plus = starts_char 43 word false c.if-starts_with.ensures.cases (omega arith) (omega arith) in
    let plain = parse_plain numerals 16 word _ c.parse.ensures.value.0 (λ e. false≢true (plus.1 e)) in
    record { value = c.ok.ensures.value ∙ number word _ plain }
