-- What a call that is made on a book answers, and what a line that is played leaves.
use Rattle.std.specs.Prelude.{◌≡◌, ℕ, Bool, ◌⊎◌, List, ◌∷◌, ◌++◌, length, take, Some, None, Ok, Err, vec_items, string_bytes, codes, Option, Result, IsOkAnd, String}
use Rattle.std.specs.Result.{result_map_both}
use Rattle.promises.specs.declared.refusals.Refusal.{Refusal}
use Rattle.promises.specs.Refusals.{told}
use Rattle.promises.specs.Page.{Page}
use Rattle.promises.specs.Declaring.{DeclareGives}
use Rattle.promises.specs.Laying.{LayGives}
use Rattle.promises.specs.Writing.{WriteOutGives}
use Rattle.promises.specs.Judging.{JudgeGives}
use Rattle.script.specs.declared.answers.Answer.{Answer}
use Rattle.script.specs.declared.answers.Answer.TheVariants.{Setting, Rule, Code, Verdict}
use Rattle.lines.specs.declared.calls.LineError.{LineError}
use Rattle.lines.specs.declared.calls.LineError.TheVariants.{NotACall, Memory}
use Rattle.lines.specs.Calls.{Request, declare, lay, write, judge, Meaning, blank, a_call, not_a_call}
use Rattle.script.specs.Saying.{said}
use Rattle.lines.specs.Words.{words_of, spaced}

-- what the book gave, as an answer
abbrev pub answered : {A : Type 0} → (A → Answer) → Result A Refusal → Result Answer Refusal
answered answer r = result_map_both answer (λ refusal. refusal) r

-- the bytes of a code that an answer has
abbrev pub code_bytes : Answer → Option (List ℕ)
code_bytes (Setting n) = None
code_bytes (Rule n) = None
code_bytes (Code v) = Some (vec_items v)
code_bytes (Verdict b) = None

-- the answer where a rule was written into a buffer that holds these bytes then
abbrev pub CodeAnswer : Result ℕ Refusal → List ℕ → Result Answer Refusal → Type 0
CodeAnswer (Ok n) buffer a = IsOkAnd a (λ answer. code_bytes answer ≡ Some (take n buffer))
CodeAnswer (Err e) buffer a = a ≡ Err e

-- a rule is written into some buffer with that room
pub record Writes (p : Page) (rule room : ℕ) (a : Result Answer Refusal) : Type 0 where
  pub before : List ℕ
  pub after : List ℕ
  pub result : Result ℕ Refusal
  pub long : length before ≡ room
  pub gives : WriteOutGives p rule before (told result) after
  pub answer : CodeAnswer result after a

-- the call is made on a book of the page p, is answered by a, and leaves p'
abbrev pub Performs : Page → Request → Result Answer Refusal → Page → Type 0
Performs p (declare size) a p' = (r : Result ℕ Refusal) × (a ≡ answered Setting r) × DeclareGives p size (told r) p'
Performs p (lay code) a p' = (r : Result ℕ Refusal) × (a ≡ answered Rule r) × LayGives p code (told r) p'
Performs p (write rule room) a p' = Writes p rule room a × (p' ≡ p)
Performs p (judge row) a p' = (r : Result Bool Refusal) × (a ≡ answered Verdict r) × JudgeGives p row (told r) × (p' ≡ p)

-- how a line and its answer are shown: the line's words behind `> `, and the answer on a line of its own, two spaces in
abbrev pub shown : List ℕ → Result Answer Refusal → List ℕ
shown line a = codes "> " ++ (spaced (words_of line) ++ (10 ∷ codes "  " ++ said a))

-- the line is a call, and making it on a book of the page p is answered by a and leaves p'
pub record Made (p : Page) (m : Meaning) (a : Result Answer Refusal) (p' : Page) : Type 0 where
  pub request : Request
  pub is_call : m ≡ a_call request
  pub performs : Performs p request a p'

-- what playing a line that means m gives: a call is made and shown, and any other line leaves the page as it was; where memory ran out, `Leaves` says what is left
abbrev pub Plays : {A : Type 0} → Page → List ℕ → Meaning → Result (Option (String A)) LineError → Page → Type 0
Plays p line m (Ok None) p' = (m ≡ blank) × (p' ≡ p)
Plays p line m (Ok (Some text)) p' = (a : Result Answer Refusal) × Made p m a p' × (string_bytes text ≡ shown line a)
Plays p line m (Err (NotACall e)) p' = (m ≡ not_a_call e) × (p' ≡ p)
Plays p line m (Err (Memory e)) p' = Unit {0}

-- what a line leaves, also where its answer could not be shown: the page as it was, or as its call leaves it
abbrev pub Leaves : Page → Meaning → Page → Type 0
Leaves p m p' = (p' ≡ p) ⊎ ((a : Result Answer Refusal) × Made p m a p')
