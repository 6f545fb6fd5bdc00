-- How what a call gave is said.
use Rattle.std.specs.Prelude.{ℕ, ◌/◌, ◌%◌, true, false, List, [], ◌∷◌, ◌++◌, Some, None, Ok, Err, vec_items, codes, decimal, Option, Result}
use Rattle.std.specs.List.{flat_map}
use Rattle.std.specs.Char.{digit_char}
use Rattle.promises.specs.declared.refusals.Refusal.{Refusal}
use Rattle.promises.specs.Refusals.{reason_of, number_of, value_of}
use Rattle.script.specs.declared.answers.Answer.{Answer}
use Rattle.script.specs.declared.answers.Answer.TheVariants.{Setting, Rule, Code, Verdict}
use Rattle.promises.specs.Words.{refusal_words}

-- a space, and the byte in two hexadecimal digits
abbrev pub hex_word : ℕ → List ℕ
hex_word b = 32 ∷ digit_char (b / 16) ∷ digit_char (b % 16) ∷ []

abbrev pub code_said : List ℕ → List ℕ
code_said bytes = codes "code" ++ flat_map hex_word bytes

-- a refusal's number, the offset or setting that it names, if it names one, and its words
abbrev pub reason_said : ℕ → Option ℕ → List ℕ → List ℕ
reason_said number None words = codes "refused " ++ (decimal number ++ (codes ": " ++ words))
reason_said number (Some place) words = codes "refused " ++ (decimal number ++ (codes " at " ++ (decimal place ++ (codes ": " ++ words))))

abbrev pub refusal_said : Refusal → List ℕ
refusal_said w = reason_said (number_of (reason_of w)) (value_of (reason_of w)) (refusal_words w)

abbrev pub answer_said : Answer → List ℕ
answer_said (Setting n) = codes "setting " ++ decimal n
answer_said (Rule n) = codes "rule " ++ decimal n
answer_said (Code code) = code_said (vec_items code)
answer_said (Verdict true) = codes "yes"
answer_said (Verdict false) = codes "no"

abbrev pub said : Result Answer Refusal → List ℕ
said (Ok a) = answer_said a
said (Err w) = refusal_said w
