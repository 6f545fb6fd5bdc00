-- What judging a row of choices gives.
use Rattle.std.specs.Prelude.{◌≡◌, ℕ, ◌+◌, ◌≤◌, Bool, true, if◌then◌else◌, ◌↔◌, List, [], ◌∷◌, length, nat_lt, slice_index}
use Rattle.std.specs.List.{list_all}
use Rattle.plfd.specs.declared.settings.Setting.{Setting}
use Rattle.plfd.specs.Answers.{Answer, given, Check, ◌⇒◌, unless}
use Rattle.plfd.specs.Settings.{domain}
use Rattle.plfd.specs.Formula.{Formula, Assignment, truth, Keeps, Within}
use Rattle.promises.specs.declared.refusals.Refusal.TheVariants.{RowTooShort, NotAChoice}
use Rattle.promises.specs.Refusals.{reason_of}
use Rattle.promises.specs.Page.{Page}

-- a row gives setting x the choice at its place x; further places are ignored
abbrev pub chosen : List ℕ → Assignment
chosen row x = slice_index row x

-- whether every formula is true
abbrev pub all_true : Assignment → List Formula → Bool
all_true σ fs = list_all (truth σ) fs

-- of settings counted from x, the lowest whose choice in the assignment is none of its choices; behind the last, if there is none
abbrev pub lowest_outside : List Setting → Assignment → ℕ → ℕ
lowest_outside [] σ x = x
lowest_outside (s ∷ S) σ x = if domain s (σ x) then lowest_outside S σ (x + 1) else x

-- why a row is not judged
abbrev pub judge_checks : Page → List ℕ → List Check
judge_checks p row =
    let x = lowest_outside p.settings (chosen row) 0 in
    nat_lt (length row) (length p.settings) ⇒ reason_of RowTooShort ∷
    nat_lt x (length p.settings) ⇒ reason_of (NotAChoice x) ∷ []

-- the row has a choice for each setting, each is one of the setting's, and every standing rule is true in it
pub record Fits (p : Page) (row : List ℕ) : Type 0 where
  pub long : length p.settings ≤ length row
  pub within : Within p.settings (chosen row)
  pub keeps : Keeps (chosen row) p.rules

-- yes or no; yes exactly where the row fits
pub record JudgeGives (p : Page) (row : List ℕ) (r : Answer Bool) : Type 0 where
  pub answer : r ≡ unless (judge_checks p row) (given (all_true (chosen row) p.rules))
  pub verdict : (r ≡ given true) ↔ Fits p row
