-- What writing out a rule gives.
use Rattle.std.specs.Prelude.{◌≡◌, ℕ, true, if◌then◌else◌, List, [], ◌∷◌, ◌++◌, length, drop, nat_le, nat_lt, slice_index_or}
use Rattle.plfd.specs.Answers.{Answer, given, accepted, Check, ◌⇒◌, unless}
use Rattle.plfd.specs.Formula.{constant}
use Rattle.plfd.specs.Code.{code}
use Rattle.promises.specs.declared.refusals.Refusal.TheVariants.{NoSuchRule, BufferTooShort}
use Rattle.promises.specs.Refusals.{reason_of}
use Rattle.promises.specs.Page.{Page}

-- the code of rule k, which is as it was laid
abbrev pub code_of : Page → ℕ → List ℕ
code_of p k = code (slice_index_or p.rules k (constant true))

-- why a rule is not written out
abbrev pub write_checks : Page → ℕ → List ℕ → List Check
write_checks p k buffer =
    nat_le (length p.rules) k ⇒ reason_of NoSuchRule ∷
    nat_lt (length buffer) (length (code_of p k)) ⇒ reason_of BufferTooShort ∷ []

-- the code's length; the code stands at the buffer's start, and later bytes are as they were
pub record WriteOutGives (p : Page) (k : ℕ) (buffer : List ℕ) (r : Answer ℕ) (buffer' : List ℕ) : Type 0 where
  pub answer : r ≡ unless (write_checks p k buffer) (given (length (code_of p k)))
  pub bytes : buffer' ≡ (if accepted r then code_of p k ++ drop (length (code_of p k)) buffer else buffer)
