-- A rule that is laid, and a code that is refused, as the page sees them.
use Rattle.std.proofs.Common.{◌≡◌, ℕ, ◌<◌, ◌≤◌, List, length, slice_index, Ok, Err, Result, sym, refl, ap, ◌∙◌, arith, w8, Fits}
use Rattle.std.proofs.lemmas.Bool.{cond-true, cond-false, le-leb, lt-leb}
use Rattle.std.specs.Result.{IsErrAnd}
use Rattle.plfd.specs.declared.settings.Setting.{Setting}
use Rattle.plfd.specs.declared.faults.CodeRefusal.{CodeRefusal}
use Rattle.plfd.specs.Answers.{Answer, given, refused, Reason, reason_at, and_then}
use Rattle.plfd.specs.Faults.{fault}
use Rattle.plfd.specs.Formula.{Formula}
use Rattle.plfd.specs.Reading.{read}
use Rattle.promises.specs.declared.refusals.Refusal.{Refusal}
use Rattle.promises.specs.declared.refusals.Refusal.TheVariants.{RuleCode}
use Rattle.promises.specs.Refusals.{reason_of, told}
use Rattle.promises.specs.Page.{Page, with_rule}
use Rattle.promises.specs.Laying.{laid, page_after, LayGives, LayMeans}
use Rattle.promises.proofs.Meaning.{lay_means}
use Rattle.book.specs.declared.book.Book.{Book}
use Rattle.book.specs.declared.nodes.Placed.{Placed}
use Rattle.book.specs.Growing.{Grown, Tried}
use Rattle.book.specs.View.{page_of}
use Rattle.book.proofs.Ends.{rules_total, rules_count}

-- what laying a code tells of its reading
module _ (S : List Setting) (ps ps' : List Placed) where
  pub tried_no : (x : Answer Formula) (e : CodeRefusal) → Tried x S ps ps' (ps' ≡ ps) (Err e) → (x ≡ refused (fault e.fault e.offset)) × (ps' ≡ ps)
  tried_no (given f) e t = let h = t.0 in let z : ◌≡◌ {A = ℕ} 0 1 = cc in absurd (omega arith)
  tried_no (refused w) e t =
      let h = t.0.1 in
      let same : t.0.0 ≡ e = cc in
      (ap refused (t.0.2 ∙ ap (λ d. fault d.fault d.offset) same), t.1)

  pub tried_yes : (x : Answer Formula) → Tried x S ps ps' (ps' ≡ ps) (Ok tt) → (f : Formula) × (x ≡ given f) × Grown S ps ps' f
  tried_yes (given f) t = (f, refl, t.1)
  tried_yes (refused w) t = let h = t.0.1 in let z : ◌≡◌ {A = ℕ} 0 1 = cc in absurd (omega arith)

-- a refused code's refusal, as it is told
pub told_code_refusal : {A : Type 0} (r : Result A Refusal) (e : CodeRefusal) → IsErrAnd r (λ w. w ≡ RuleCode e) → told r ≡ refused (fault e.fault e.offset)
told_code_refusal (Ok a) e h = absurd h
told_code_refusal (Err w) e h = ap (λ v. refused (reason_of v)) h

module _ (b : Book) (code : List ℕ) where
  pub full : 256 ≤ length b.ends → laid (page_of b) code ≡ refused (reason_at 12 0)
  full h = cond-true _ _ _ (le-leb 256 (length (page_of b).rules) (omega (arith, rules_count b)))

  pub not_full : length b.ends < 256 → laid (page_of b) code ≡ read b.settings (length b.nodes.placed) code
  not_full h = cond-false _ _ _ (lt-leb 256 (length (page_of b).rules) (omega (arith, rules_count b))) ∙ ap (λ n. read b.settings n code) (rules_total b)

  -- LayMeans follows from LayGives, since the code is bytes and the nodes are within their limit
  pub lays : ((k : ℕ) → Fits w8 (slice_index code k)) → {r : Answer ℕ} {p' : Page} → LayGives (page_of b) code r p' → record { gives : LayGives (page_of b) code r p'; means : LayMeans (page_of b) code r p' }
  lays bytes gives = record { gives = gives; means = lay_means (page_of b) code (λ k. omega (arith, bytes k)) (omega (arith, rules_total b, b.nodes.few)) gives }

  pub gives_refused : (w : Reason) (p' : Page) → laid (page_of b) code ≡ refused w → p' ≡ page_of b → LayGives (page_of b) code (refused w) p'
  gives_refused w p' is same = record {
    answer = sym (ap (λ a. and_then a (λ f. given (length (page_of b).rules))) is);
    page = same ∙ sym (ap (page_after (page_of b)) is);
  }

  pub gives_rule : (f : Formula) (p' : Page) → laid (page_of b) code ≡ given f → p' ≡ with_rule (page_of b) f → LayGives (page_of b) code (given (length b.ends)) p'
  gives_rule f p' is more = record {
    answer = ap given (sym (rules_count b)) ∙ sym (ap (λ a. and_then a (λ g. given (length (page_of b).rules))) is);
    page = more ∙ sym (ap (page_after (page_of b)) is);
  }
