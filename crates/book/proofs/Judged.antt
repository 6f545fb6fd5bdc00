-- What stands at a place of a book, whether its rules are true, and the lowest choice of a row that its setting lacks.
use Rattle.std.proofs.Common.{◌≡◌, ℕ, suc, refl, ◌+◌, ◌-◌, ◌<◌, ◌≤◌, true, false, Bool, not, List, [], ◌∷◌, Some, None, Option, length, slice_index, take, sym, ap, ◌∙◌, subst, ⊎_elim, arith}
use Rattle.std.specs.Bool.{MatchBool}
use Rattle.std.specs.List.{zip, position, position_or_len, AllWithin, HoldsAt}
use Rattle.std.proofs.lemmas.List.Sums.{list_all-from_AllPass}
use Rattle.std.proofs.lemmas.List.Folds.{list_all_at}
use Rattle.std.proofs.lemmas.Bool.{and_parts, ltb-true, cases_Bool, cases_lt, cond-true, cond-false, lt-ltb, le-ltb}
use Rattle.plfd.specs.declared.settings.Setting.{Setting}
use Rattle.plfd.specs.declared.nodes.Atom.{Atom}
use Rattle.plfd.specs.declared.nodes.Connective.{Connective}
use Rattle.plfd.specs.declared.nodes.Node.{Node}
use Rattle.plfd.specs.declared.nodes.Node.TheVariants.{Constant, Atomic, Not, Join}
use Rattle.plfd.specs.Formula.{Assignment, truth, constant, atom, negation, join, named}
use Rattle.plfd.specs.Code.{arity, top, below, raise, node_fits}
use Rattle.plfd.specs.Settings.{domain}
use Rattle.promises.specs.Judging.{chosen, all_true, lowest_outside}
use Rattle.book.specs.declared.book.Book.{Book}
use Rattle.book.specs.Places.{stack, placed, formula_at}
use Rattle.book.specs.Searching.{FindsLowest}
use Rattle.book.specs.View.{rules_of}
use Rattle.book.proofs.Stack.{stack_more, some_places}
use Rattle.book.proofs.Ends.{rule_at, rules_count}

module _ (b : Book) (k : ℕ) (h : k < length b.nodes.placed) where
  at : (n : Node) → (placed b.nodes.placed k).node ≡ n → formula_at b.nodes.placed k ≡ top (raise (stack b.nodes.placed k) n)
  at n e = ap top (stack_more b.nodes.placed k h ∙ ap (raise (stack b.nodes.placed k)) e)

  takes : (n : Node) → (placed b.nodes.placed k).node ≡ n → arity n ≤ length (stack b.nodes.placed k)
  takes n e = subst (λ m. arity m ≤ length (stack b.nodes.placed k)) e (b.nodes.supplied k h)

  pub at_constant : (v : _) → (placed b.nodes.placed k).node ≡ Constant v → formula_at b.nodes.placed k ≡ constant v
  at_constant v e = at (Constant v) e

  -- an atom's setting is declared
  pub at_atom : (a : Atom) → (placed b.nodes.placed k).node ≡ Atomic a → (formula_at b.nodes.placed k ≡ atom a) × (named a < length b.settings)
  at_atom a e =
      let fits = subst (λ n. node_fits b.settings n ≡ true) e (b.fitting k h) in
      (at (Atomic a) e, ltb-true (named a) (length b.settings) (and_parts _ _ fits).0)

  pub at_not : (placed b.nodes.placed k).node ≡ Not → (1 ≤ k) × (formula_at b.nodes.placed k ≡ negation (formula_at b.nodes.placed (k - 1)))
  at_not e =
      let some : 0 < k = some_places b.nodes.placed k (takes Not e) in
      let back : k ≡ k - 1 + 1 = omega arith in
      (some, at Not e ∙ ap (λ q. negation (top (stack b.nodes.placed q))) back)

  -- the right side ends just before
  pub at_join : (c : Connective) → (placed b.nodes.placed k).node ≡ Join c →
      (2 ≤ length (stack b.nodes.placed k)) × (1 ≤ k)
      × (formula_at b.nodes.placed k ≡ join c (top (below (stack b.nodes.placed k))) (formula_at b.nodes.placed (k - 1)))
  at_join c e =
      let ps = b.nodes.placed in
      let two = takes (Join c) e in
      let some : 0 < k = some_places ps k (omega arith) in
      let back : k ≡ k - 1 + 1 = omega arith in
      (two, some, at (Join c) e ∙ ap (λ q. join c (top (below (stack ps k))) (top (stack ps q))) back)

-- whether all rules are true, from the truth of the formulas that end before the rules' ends
pub decided : (b : Book) (σ : Assignment) (r : Bool) →
    MatchBool r (AllWithin (λ n. truth σ (formula_at b.nodes.placed (n - 1)) ≡ true) b.ends 0 (length b.ends)) ((k : ℕ) × (k < length b.ends) × HoldsAt (λ n. truth σ (formula_at b.nodes.placed (n - 1)) ≡ false) b.ends k) →
    r ≡ all_true σ (rules_of b.nodes.placed)
decided b σ true all =
    sym (list_all-from_AllPass (truth σ) (rules_of b.nodes.placed)
    (λ k d l. let stands : k < length b.ends = omega (arith, rules_count b, l) in ap (truth σ) (rule_at b d k stands) ∙ all k 0 (omega arith) stands))
decided b σ false one =
    sym (list_all_at (truth σ) (rules_of b.nodes.placed) one.0 (constant true) (omega (arith, rules_count b, one.1)) (ap (truth σ) (rule_at b (constant true) one.0 one.1) ∙ one.2 0))

-- a setting beside a choice that it does not have
abbrev pub lacks : Setting × ℕ → Bool
lacks p = not (domain p.0 p.1)

zip_count : (S : List Setting) (row : List ℕ) → length S ≤ length row → length (zip S row) ≡ length S
zip_count [] row h = refl
zip_count (s ∷ S) [] h = absurd (omega arith)
zip_count (s ∷ S) (v ∷ row) h = omega (arith, zip_count S row (omega arith))

-- what the row has beyond the settings pairs with none
pub zip_take : (S : List Setting) (row : List ℕ) → zip S (take (length S) row) ≡ zip S row
zip_take [] row = refl
zip_take (s ∷ S) [] = refl
zip_take (s ∷ S) (v ∷ row) = ap (λ ps. (s, v) ∷ ps) (zip_take S row)

-- settings counted from x, beside what is left of the row there
lowest_from : (σ : Assignment) (S : List Setting) (row : List ℕ) (x : ℕ) → ((k : ℕ) → slice_index row k ≡ σ (x + k)) → length S ≤ length row → lowest_outside S σ x ≡ x + position_or_len lacks (zip S row)
lowest_from σ [] row x at h = omega arith
lowest_from σ (s ∷ S) [] x at h = absurd (omega arith)
lowest_from σ (s ∷ S) (v ∷ row) x at h =
    let here : v ≡ σ (x + 0) = at 0 in
    let start : x + 0 ≡ x = omega arith in
    let on = lowest_from σ S row (x + 1) (λ k. let e : x + suc k ≡ x + 1 + k = omega arith in at (suc k) ∙ ap σ e) (omega arith) in
    let same : domain s (σ x) ≡ domain s v = ap (domain s) (sym (here ∙ ap σ start)) in
    ⊎_elim (λ t. grind (arith, on, same, t)) (λ f. grind (arith, same, f)) (cases_Bool (domain s v))

module _ (S : List Setting) (row : List ℕ) (long : length S ≤ length row) where
  abbrev pairs : List (Setting × ℕ)
  pairs = zip S row

  abbrev found : ℕ
  found = position_or_len lacks pairs

  lowest_is : lowest_outside S (chosen row) 0 ≡ position_or_len lacks (zip S row)
  lowest_is = lowest_from (chosen row) S row 0 (λ k. let e : k ≡ 0 + k = omega arith in ap (chosen row) e) long ∙ omega arith

  pub finds_lowest : (r : Option ℕ) → r ≡ position lacks pairs → FindsLowest S (chosen row) r
  finds_lowest None is =
      ⊎_elim
      (λ low. let some = is ∙ cond-true _ _ _ (lt-ltb found (length pairs) low) in let z : ◌≡◌ {A = ℕ} 0 1 = cc in absurd (omega arith))
      (λ high. omega (arith, high, lowest_is, zip_count S row long))
      (cases_lt found (length pairs))
  finds_lowest (Some x) is =
      ⊎_elim
      (λ low.
      let same : Some x ≡ Some found = is ∙ cond-true _ _ _ (lt-ltb found (length pairs) low) in
      let e : x ≡ found = cc in
      (lowest_is ∙ sym e, omega (arith, e, low, zip_count S row long)))
      (λ high. let none = is ∙ cond-false _ _ _ (le-ltb found (length pairs) high) in let z : ◌≡◌ {A = ℕ} 0 1 = cc in absurd (omega arith))
      (cases_lt found (length pairs))
