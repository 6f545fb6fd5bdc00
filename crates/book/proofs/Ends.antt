-- The rules of a book, one behind the other.
use Rattle.std.proofs.Common.{◌≡◌, ℕ, zero, suc, ◌+◌, ◌-◌, ◌<◌, ◌≤◌, List, [], ◌∷◌, ◌++◌, reverse, length, slice_index, slice_index_or, take, sym, refl, ap, ◌∙◌, ⊎_elim, arith}
use mathlib.Core.List.{reverse-cons}
use Rattle.std.proofs.lemmas.List.{take_all, take-append-le, length-reverse, get_or-take, get_or_push}
use Rattle.std.proofs.lemmas.Bool.{cases_eq}
use Rattle.plfd.specs.Formula.{Formula, nodes, total}
use Rattle.plfd.specs.Code.{top}
use Rattle.book.specs.declared.book.Book.{Book}
use Rattle.book.specs.Places.{stack, made, formula_at, start}
use Rattle.book.specs.View.{rules_of}
use Rattle.book.proofs.Stack.{stack_cons, stack_top, made_all, made_total}

module _ (b : Book) where
  start_up : (j k : ℕ) → j ≤ k → k ≤ length b.ends → start b.ends j ≤ start b.ends k
  start_up j zero h l = let e : j ≡ 0 = omega arith in rw e (omega arith)
  start_up j (suc k) h l =
      ⊎_elim
      (λ e. rw e (omega arith))
      (λ ne. omega (arith, start_up j k (omega arith) (omega arith), b.rises k (omega arith)))
      (cases_eq j (suc k))

  pub rule_within : (k : ℕ) → k < length b.ends → slice_index b.ends k ≤ length b.nodes.placed
  rule_within k h = omega (arith, start_up (suc k) (length b.ends) h (omega arith), b.met)

  -- rule k stands upon those before it
  pub rule_stack : (k : ℕ) → k < length b.ends → stack b.nodes.placed (slice_index b.ends k) ≡ top (stack b.nodes.placed (slice_index b.ends k)) ∷ stack b.nodes.placed (start b.ends k)
  rule_stack k h =
      let ps = b.nodes.placed in
      let end = slice_index b.ends k in
      let some : 0 < end = omega (arith, b.rises k h) in
      let le = rule_within k h in
      let t = stack_top ps b.nodes.supplied end some le in
      let back : end - 1 + 1 ≡ end = omega arith in
      let span : end - start b.ends k ≡ nodes (top (stack ps end)) = sym (b.covers k h) ∙ b.nodes.spans (end - 1) (omega arith) ∙ ap (λ q. nodes (top (stack ps q))) back in
      let place : end - nodes (top (stack ps end)) ≡ start b.ends k = omega (arith, span, b.rises k h) in
      stack_cons ps end some le ∙ ap (λ l. top (stack ps end) ∷ l) (sym t.rest ∙ ap (stack ps) place)

  rule_count : (k : ℕ) → k ≤ length b.ends → length (stack b.nodes.placed (start b.ends k)) ≡ k
  rule_count zero h = refl
  rule_count (suc k) h = ap length (rule_stack k h) ∙ omega (arith, rule_count k (omega arith))

  -- the first k rules are those of the nodes before rule k
  up_to : (k m : ℕ) → k ≤ m → m ≤ length b.ends → take k (reverse (stack b.nodes.placed (start b.ends m))) ≡ reverse (stack b.nodes.placed (start b.ends k))
  up_to k m h l =
      ⊎_elim
      (λ e. rw e (take_all m (reverse (stack b.nodes.placed (start b.ends m))) (omega (arith, length-reverse (stack b.nodes.placed (start b.ends m)), rule_count m l))))
      (λ ne. further k m (omega arith) l)
      (cases_eq k m)
    where
      further : (k m : ℕ) → k < m → m ≤ length b.ends → take k (reverse (stack b.nodes.placed (start b.ends m))) ≡ reverse (stack b.nodes.placed (start b.ends k))
      further k zero h l = absurd (omega arith)
      further k (suc m) h l =
          let s = stack b.nodes.placed (start b.ends m) in
          let f = top (stack b.nodes.placed (slice_index b.ends m)) in
          let many = length-reverse s ∙ rule_count m (omega arith) in
          ap (λ x. take k (reverse x)) (rule_stack m l) ∙ ap (take k) (reverse-cons f s) ∙ take-append-le k (reverse s) (f ∷ []) (omega (arith, many))
          ∙ ⊎_elim
          (λ e. rw e (take_all m (reverse s) (omega (arith, many))))
          (λ ne. further k m (omega arith) (omega arith))
          (cases_eq k m)

  -- the nodes before the last rule's end are all nodes
  all_nodes : stack b.nodes.placed (start b.ends (length b.ends)) ≡ made b.nodes.placed
  all_nodes = ap (stack b.nodes.placed) b.met ∙ made_all b.nodes.placed

  pub rules_count : length (rules_of b.nodes.placed) ≡ length b.ends
  rules_count = length-reverse (made b.nodes.placed) ∙ ap length (sym all_nodes) ∙ rule_count (length b.ends) (omega arith)

  first_rules : (k : ℕ) → k ≤ length b.ends → reverse (stack b.nodes.placed (start b.ends k)) ≡ take k (rules_of b.nodes.placed)
  first_rules k h = sym (up_to k (length b.ends) h (omega arith)) ∙ ap (λ s. take k (reverse s)) all_nodes

  -- rule k is the formula that ends before its end
  pub rule_at : (d : Formula) (k : ℕ) → k < length b.ends → slice_index_or (rules_of b.nodes.placed) k d ≡ formula_at b.nodes.placed (slice_index b.ends k - 1)
  rule_at d k h =
      let end = slice_index b.ends k in
      let back : end ≡ end - 1 + 1 = omega (arith, b.rises k h) in
      let before = stack b.nodes.placed (start b.ends k) in
      let f = top (stack b.nodes.placed end) in
      sym (get_or-take (suc k) (rules_of b.nodes.placed) k d (omega arith))
      ∙ ap (λ l. slice_index_or l k d) (sym (first_rules (suc k) h) ∙ ap reverse (rule_stack k h) ∙ reverse-cons f before)
      ∙ get_or_push (reverse before) f d k (length-reverse before ∙ rule_count k (omega arith))
      ∙ ap (λ q. top (stack b.nodes.placed q)) back

total-append : (s t : List Formula) → total (s ++ t) ≡ total s + total t
total-append [] t = omega arith
total-append (f ∷ s) t = omega (arith, total-append s t)

total-reverse : (s : List Formula) → total (reverse s) ≡ total s
total-reverse [] = refl
total-reverse (f ∷ s) = ap total (reverse-cons f s) ∙ total-append (reverse s) (f ∷ []) ∙ omega (arith, total-reverse s)

pub rules_total : (b : Book) → total (rules_of b.nodes.placed) ≡ length b.nodes.placed
rules_total b = total-reverse (made b.nodes.placed) ∙ made_total b.nodes.placed b.nodes.supplied
