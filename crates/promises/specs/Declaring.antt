-- What declaring a setting gives.
use Rattle.std.specs.Prelude.{◌≡◌, ℕ, if◌then◌else◌, List, [], ◌∷◌, length, nat_eq, nat_le, nat_lt}
use Rattle.plfd.specs.Answers.{Answer, given, accepted, Check, ◌⇒◌, unless}
use Rattle.promises.specs.declared.refusals.Refusal.TheVariants.{SizeZero, SettingsFull, SuppositionOpen}
use Rattle.promises.specs.Refusals.{reason_of}
use Rattle.promises.specs.Page.{Page, with_setting}

-- how many settings a book has at most
abbrev pub setting_limit : ℕ
setting_limit = 128

-- why a size is not declared
abbrev pub declare_checks : Page → ℕ → List Check
declare_checks p size =
    nat_lt 0 (length p.suppositions) ⇒ reason_of SuppositionOpen ∷
    nat_le setting_limit (length p.settings) ⇒ reason_of SettingsFull ∷
    nat_eq size 0 ⇒ reason_of SizeZero ∷ []

-- the setting's number, counted from 0; the page has it as its last setting
pub record DeclareGives (p : Page) (size : ℕ) (r : Answer ℕ) (p' : Page) : Type 0 where
  pub answer : r ≡ unless (declare_checks p size) (given (length p.settings))
  pub page : p' ≡ (if accepted r then with_setting p (record { size = size }) else p)
