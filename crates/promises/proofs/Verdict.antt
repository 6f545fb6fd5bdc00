-- A row is judged yes exactly where it fits.
use Rattle.std.proofs.Common.{◌≡◌, ℕ, zero, suc, ◌+◌, ◌<◌, ◌≤◌, Bool, true, List, [], ◌∷◌, length, sym, refl, ap, ◌∙◌, ⊎_elim, arith}
use Rattle.std.proofs.lemmas.Bool.{cond-true, cond-false, and_parts, and_from, cases_Bool, ltb-false, le-ltb}
use Rattle.plfd.specs.declared.settings.Setting.{Setting}
use Rattle.plfd.specs.Answers.{Answer, given, unless}
use Rattle.plfd.specs.Settings.{domain, setting}
use Rattle.plfd.specs.Formula.{Formula, Assignment, truth, Keeps}
use Rattle.plfd.proofs.Checks.{unless_none, passed_checks}
use Rattle.promises.specs.Page.{Page}
use Rattle.promises.specs.Judging.{chosen, all_true, lowest_outside, judge_checks, Fits, JudgeGives}

keeps_if : (σ : Assignment) (fs : List Formula) → all_true σ fs ≡ true → Keeps σ fs
keeps_if σ [] h = tt
keeps_if σ (f ∷ fs) h = let p = and_parts (truth σ f) (all_true σ fs) h in (p.0, keeps_if σ fs p.1)

true_if : (σ : Assignment) (fs : List Formula) → Keeps σ fs → all_true σ fs ≡ true
true_if σ [] h = refl
true_if σ (f ∷ fs) h = and_from _ _ h.0 (true_if σ fs h.1)

-- each setting counted from x has its choice
abbrev From : List Setting → Assignment → ℕ → Type 0
From S σ x = (k : ℕ) → k < length S → domain (setting S k) (σ (x + k)) ≡ true

-- the choice at one place, however the place is counted
at_place : (s : Setting) (σ : Assignment) (a b : ℕ) → a ≡ b → domain s (σ a) ≡ domain s (σ b)
at_place s σ a b e = ap (λ y. domain s (σ y)) e

from_cons : (s : Setting) (S : List Setting) (σ : Assignment) (x : ℕ) → domain s (σ x) ≡ true → From S σ (x + 1) → From (s ∷ S) σ x
from_cons s S σ x here on zero l = at_place s σ (x + 0) x (omega arith) ∙ here
from_cons s S σ x here on (suc k) l = at_place (setting S k) σ (x + suc k) (x + 1 + k) (omega arith) ∙ on k (omega arith)

within_if : (S : List Setting) (σ : Assignment) (x : ℕ) → x + length S ≤ lowest_outside S σ x → From S σ x
within_if [] σ x h = λ k l. absurd (omega arith)
within_if (s ∷ S) σ x h =
    ⊎_elim
    (λ t. from_cons s S σ x t (within_if S σ (x + 1) (omega (arith, h, cond-true (domain s (σ x)) (lowest_outside S σ (x + 1)) x t))))
    (λ f. absurd (omega (arith, h, cond-false (domain s (σ x)) (lowest_outside S σ (x + 1)) x f)))
    (cases_Bool (domain s (σ x)))

outside_if : (S : List Setting) (σ : Assignment) (x : ℕ) → From S σ x → lowest_outside S σ x ≡ x + length S
outside_if [] σ x h = omega arith
outside_if (s ∷ S) σ x h =
    cond-true (domain s (σ x)) _ _ (at_place s σ x (x + 0) (omega arith) ∙ h 0 (omega arith))
    ∙ outside_if S σ (x + 1) (λ k l. at_place (setting S k) σ (x + 1 + k) (x + suc k) (omega arith) ∙ h (suc k) (omega arith))
    ∙ omega arith

module _ (p : Page) (row : List ℕ) where
  abbrev judged : Answer Bool
  judged = unless (judge_checks p row) (given (all_true (chosen row) p.rules))

  abbrev outside : ℕ
  outside = lowest_outside p.settings (chosen row) 0

  fits_if : judged ≡ given true → Fits p row
  fits_if e =
      let passed = passed_checks (judge_checks p row) e in
      let yes_all : all_true (chosen row) p.rules ≡ true = cc (passed.1) in
      let none : length p.settings ≤ outside = ltb-false _ _ passed.0.1.0 in
      let each = within_if p.settings (chosen row) 0 (omega (arith, none)) in
      record {
        long = ltb-false _ _ passed.0.0;
        within = λ x l. at_place (setting p.settings x) (chosen row) x (0 + x) (omega arith) ∙ each x l;
        keeps = keeps_if (chosen row) p.rules yes_all;
      }

  yes_if : Fits p row → judged ≡ given true
  yes_if f =
      let all = outside_if p.settings (chosen row) 0 (λ x l. at_place (setting p.settings x) (chosen row) (0 + x) x (omega arith) ∙ f.within x l) in
      unless_none (judge_checks p row) (le-ltb _ _ f.long, (le-ltb _ _ (omega (arith, all)), tt))
      ∙ ap given (true_if (chosen row) p.rules f.keeps)

  pub judge_gives : (r : Answer Bool) → r ≡ judged → JudgeGives p row r
  judge_gives r e = record { answer = e; verdict = ((λ y. fits_if (sym e ∙ y)), (λ f. e ∙ yes_if f)) }
