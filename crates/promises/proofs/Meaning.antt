-- What laying gives is what it means.
use Rattle.std.proofs.Common.{◌≡◌, ℕ, ◌≤◌, true, List, length, sym, refl, ap, ◌∙◌}
use Rattle.std.proofs.lemmas.List.{get_or_push}
use Rattle.std.proofs.lemmas.Bool.{true≢false, false≢true, lt-leb, leb-false}
use Rattle.plfd.specs.Answers.{Answer, given, refused, accepted, and_then}
use Rattle.plfd.specs.Formula.{Formula, constant, total}
use Rattle.plfd.specs.Code.{code as formula_code}
use Rattle.plfd.specs.Reading.{node_limit}
use Rattle.plfd.specs.Exact.{Bytes}
use Rattle.plfd.proofs.Checks.{given≢refused, unless_none, passed_checks}
use Rattle.plfd.proofs.Exactness.{reading_is_exact}
use Rattle.promises.specs.Page.{Page, with_rule}
use Rattle.promises.specs.Writing.{code_of}
use Rattle.promises.specs.Laying.{lay_checks, laid, page_after, LayGives, CanStand, LayMeans}

module _ (p : Page) (code : List ℕ) (B : Bytes code) (few : total p.rules ≤ node_limit) where
  laid_if : (f : Formula) → CanStand p code f → laid p code ≡ given f
  laid_if f can = unless_none (lay_checks p) (lt-leb _ _ can.room, tt) ∙ (reading_is_exact p.settings (total p.rules) code f few B).1 can.says

  can_if : (f : Formula) → laid p code ≡ given f → CanStand p code f
  can_if f e =
      let passed = passed_checks (lay_checks p) e in
      record { room = leb-false _ _ passed.0.0; says = (reading_is_exact p.settings (total p.rules) code f few B).0 passed.1 }

  meant : {p' : Page} {r : Answer ℕ} (a : Answer Formula) → laid p code ≡ a → r ≡ and_then a (λ f. given (length p.rules)) → p' ≡ page_after p a → LayMeans p code r p'
  meant {p'} {r} (given f) is answer page = record {
    stands = λ g can. (answer, (let h = sym is ∙ laid_if g can in let same : f ≡ g = cc in page ∙ ap (with_rule p) same));
    only = λ _. (f, can_if f is);
    as_laid = λ _. ap (λ q. code_of q (length p.rules)) page ∙ ap formula_code (get_or_push p.rules f (constant true) (length p.rules) refl) ∙ sym (can_if f is).says.written;
    else_same = λ no. absurd (true≢false (sym (ap accepted answer) ∙ no));
  }
  meant {p'} {r} (refused w) is answer page = record {
    stands = λ g can. absurd (given≢refused (sym (laid_if g can) ∙ is));
    only = λ ok. absurd (false≢true (sym (ap accepted answer) ∙ ok));
    as_laid = λ ok. absurd (false≢true (sym (ap accepted answer) ∙ ok));
    else_same = λ _. page;
  }

  pub lay_means : {p' : Page} {r : Answer ℕ} → LayGives p code r p' → LayMeans p code r p'
  lay_means g = meant (laid p code) refl g.answer g.page
