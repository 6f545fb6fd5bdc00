-- Checks that refuse one answer refuse every answer; and what a command that passes its checks may count on.
use Rattle.std.proofs.Common.{◌≡◌, ℕ, ◌<◌, ◌≤◌, true, false, List, [], ◌∷◌, sym, refl, ap, ◌∙◌, ⊎_elim, arith}
use Rattle.std.proofs.lemmas.Bool.{cond-false, eqb-false, ltb-false, leb-false, cases_eq}
use Rattle.plfd.specs.declared.nodes.Node.{Node}
use Rattle.plfd.specs.Answers.{Answer, given, refused, Reason, Check, ◌⇒◌, unless}
use Rattle.plfd.specs.Code.{arity}
use Rattle.plfd.specs.Reading.{node_limit, stack_checks, end_checks}

pub given≢refused : {A : Type 0} {a : A} {w : Reason} → given a ≡ refused w → ⊥
given≢refused e = let z : ◌≡◌ {A = ℕ} 0 1 = cc in omega arith

pub refuses_all : {A B : Type 0} {w : Reason} (cs : List Check) (a : A) → unless cs (given a) ≡ refused w → (r : Answer B) → unless cs r ≡ refused w
refuses_all [] a e r = absurd (given≢refused e)
refuses_all {w = w} (true ⇒ v ∷ cs) a e r = let same : v ≡ w = cc in ap refused same
refuses_all (false ⇒ v ∷ cs) a e r = refuses_all cs a e r

-- no check of a list holds
abbrev pub NoneHolds : List Check → Type 0
NoneHolds [] = Unit {0}
NoneHolds (b ⇒ w ∷ cs) = (b ≡ false) × NoneHolds cs

module _ {A : Type 0} {r : Answer A} where
  pub unless_none : (cs : List Check) → NoneHolds cs → unless cs r ≡ r
  unless_none [] h = refl
  unless_none (b ⇒ w ∷ cs) h = cond-false b _ _ h.0 ∙ unless_none cs h.1

  -- what is given where no check holds is what stands behind the checks
  pub passed_checks : {x : A} (cs : List Check) → unless cs r ≡ given x → NoneHolds cs × (r ≡ given x)
  passed_checks [] e = (tt, e)
  passed_checks (true ⇒ w ∷ cs) e = absurd (given≢refused (sym e))
  passed_checks (false ⇒ w ∷ cs) e = let p = passed_checks cs e in ((refl, p.0), p.1)

  pub passed_stack : {x : A} (made end at : ℕ) (n : Node) → unless (stack_checks made end at n) r ≡ given x → (arity n ≤ made) × (end < node_limit) × (r ≡ given x)
  passed_stack made end at n e = let p = passed_checks (stack_checks made end at n) e in (ltb-false made (arity n) p.0.0, leb-false node_limit end p.0.1.0, p.1)

  pub passed_end : {x : A} (made at : ℕ) → unless (end_checks made at) r ≡ given x → (made ≡ 1) × (r ≡ given x)
  passed_end made at e =
      let p = passed_checks (end_checks made at) e in
      let some = eqb-false made 0 p.0.0 in
      let one = ltb-false 1 made p.0.1.0 in
      (⊎_elim (λ z. absurd (some z)) (λ _. omega arith) (cases_eq made 0), p.1)
