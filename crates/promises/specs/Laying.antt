-- What laying a rule gives.
use Rattle.std.specs.Prelude.{◌≡◌, ℕ, ◌<◌, true, false, List, [], ◌∷◌, length, nat_le}
use Rattle.plfd.specs.Answers.{Answer, given, refused, accepted, and_then, Check, ◌⇒◌, unless}
use Rattle.plfd.specs.Formula.{Formula, total}
use Rattle.plfd.specs.Reading.{read}
use Rattle.plfd.specs.Exact.{Says}
use Rattle.promises.specs.declared.refusals.Refusal.TheVariants.{RulesFull}
use Rattle.promises.specs.Refusals.{reason_of}
use Rattle.promises.specs.Page.{Page, with_rule}
use Rattle.promises.specs.Writing.{code_of}

-- how many rules stand in a book at most
abbrev pub rule_limit : ℕ
rule_limit = 256

-- why a rule is not laid, whatever its code
abbrev pub lay_checks : Page → List Check
lay_checks p = nat_le rule_limit (length p.rules) ⇒ reason_of RulesFull ∷ []

-- the formula that the code says on this page, or why it is refused; of an empty code, reading says so at offset 0
abbrev pub laid : Page → List ℕ → Answer Formula
laid p code = unless (lay_checks p) (read p.settings (total p.rules) code)

-- the page after a formula was laid, or refused
abbrev pub page_after : Page → Answer Formula → Page
page_after p (given f) = with_rule p f
page_after p (refused w) = p

-- the rule's number, counted from 0 among the standing rules; the page has its formula as its last rule
pub record LayGives (p : Page) (code : List ℕ) (r : Answer ℕ) (p' : Page) : Type 0 where
  pub answer : r ≡ and_then (laid p code) (λ f. given (length p.rules))
  pub page : p' ≡ page_after p (laid p code)

-- the code can stand on the page as the formula: there is room for a rule, and the bytes say the formula
pub record CanStand (p : Page) (code : List ℕ) (f : Formula) : Type 0 where
  pub room : length p.rules < rule_limit
  pub says : Says p.settings (total p.rules) code f

-- what laying means: the code of a formula that can stand is accepted, and that formula stands then; nothing else is accepted.
-- what is accepted is written out as it was laid, and what is not changes nothing
pub record LayMeans (p : Page) (code : List ℕ) (r : Answer ℕ) (p' : Page) : Type 0 where
  pub stands : (f : Formula) → CanStand p code f → (r ≡ given (length p.rules)) × (p' ≡ with_rule p f)
  pub only : accepted r ≡ true → (f : Formula) × CanStand p code f
  pub as_laid : accepted r ≡ true → code_of p' (length p.rules) ≡ code
  pub else_same : accepted r ≡ false → p' ≡ p
