-- What stands in a book when one rule more is laid.
use Rattle.std.proofs.Common.{◌≡◌, ℕ, zero, suc, ◌+◌, ◌-◌, ◌<◌, ◌≤◌, List, [], ◌∷◌, ◌++◌, reverse, length, slice_index, refl, ap, ◌∙◌, ⊎_elim, arith, length-append}
use mathlib.Core.List.{reverse-cons}
use Rattle.std.proofs.lemmas.List.{get_or_append_left, get_or_push}
use Rattle.std.proofs.lemmas.Bool.{cases_eq}
use Rattle.plfd.specs.declared.settings.Setting.{Setting}
use Rattle.plfd.specs.Formula.{Formula, nodes, total}
use Rattle.plfd.specs.Code.{top}
use Rattle.plfd.proofs.Stacks.{some_nodes}
use Rattle.book.specs.declared.book.Book.{Book}
use Rattle.book.specs.declared.nodes.Nodes.{Nodes}
use Rattle.book.specs.declared.nodes.Placed.{Placed}
use Rattle.book.specs.Places.{stack, made, placed, formula_at, Fitting, start, Rises, Covers}
use Rattle.book.specs.Growing.{Grown}
use Rattle.book.specs.View.{rules_of}
use Rattle.book.proofs.Stack.{made_all, made_total}
use Rattle.book.proofs.Ends.{rule_within}
use Rattle.book.proofs.Growth.{old_placed}

-- what a book's type says of its rules
abbrev pub InOrder : List Setting → List Placed → List ℕ → Type 0
InOrder S ps ends = record { fitting : Fitting S ps; met : start ends (length ends) ≡ length ps; rises : Rises ends; covers : Covers ps ends }

-- one formula more, whose nodes stand behind the others
module _ (b : Book) (n : Nodes) (f : Formula) (g : Grown b.settings b.nodes.placed n.placed f) where
  abbrev end : ℕ
  end = length n.placed

  abbrev ends : List ℕ
  ends = b.ends ++ end ∷ []

  last_end : slice_index ends (length b.ends) ≡ end
  last_end = get_or_push b.ends end 0 (length b.ends) refl

  old_end : (k : ℕ) → k < length b.ends → slice_index ends k ≡ slice_index b.ends k
  old_end k h = get_or_append_left b.ends (end ∷ []) 0 k h

  old_start : (k : ℕ) → k ≤ length b.ends → start ends k ≡ start b.ends k
  old_start zero h = refl
  old_start (suc k) h = old_end k h

  -- each rule is an old one, or the last
  each_rule : (P : ℕ → Type 0) → ((k : ℕ) → k < length b.ends → P k) → P (length b.ends) → (k : ℕ) → k < length ends → P k
  each_rule P old new k h =
      let long = length-append b.ends (end ∷ []) in
      ⊎_elim (λ e. rw e new) (λ ne. old k (omega arith)) (cases_eq k (length b.ends))

  -- the new formula's nodes are those behind the old ones
  new_nodes : nodes f + length b.nodes.placed ≡ end
  new_nodes = omega (arith, made_total n.placed n.supplied, made_total b.nodes.placed b.nodes.supplied, ap total g.one)

  new_some : length b.nodes.placed < end
  new_some = omega (arith, new_nodes, some_nodes f)

  new_formula : formula_at n.placed (end - 1) ≡ f
  new_formula =
      let back : end - 1 + 1 ≡ end = omega (arith, new_some) in
      ap (λ q. top (stack n.placed q)) back ∙ ap top (made_all n.placed ∙ g.one)

  met : start ends (length ends) ≡ end
  met =
      let long : length ends ≡ suc (length b.ends) = omega (arith, length-append b.ends (end ∷ [])) in
      ap (start ends) long ∙ last_end

  rises : Rises ends
  rises = each_rule (λ k. start ends k < slice_index ends k)
      (λ k h. rw (old_end k h, old_start k (omega arith)) (b.rises k h))
      (rw (last_end, old_start (length b.ends) (omega arith)) (omega (arith, b.met, new_some)))

  old_span : (k : ℕ) → k < length b.ends → (placed n.placed (slice_index b.ends k - 1)).span ≡ slice_index b.ends k - start b.ends k
  old_span k h =
      ap (λ ps. (placed ps (slice_index b.ends k - 1)).span) g.behind.is
      ∙ ap (λ p. p.span) (old_placed b.nodes.placed g.behind.more (slice_index b.ends k - 1) (omega (arith, rule_within b k h, b.rises k h)))
      ∙ b.covers k h

  covers : Covers n.placed ends
  covers = each_rule (λ k. (placed n.placed (slice_index ends k - 1)).span ≡ slice_index ends k - start ends k)
      (λ k h. rw (old_end k h, old_start k (omega arith)) (old_span k h))
      (rw (last_end, old_start (length b.ends) (omega arith))
      (n.spans (end - 1) (omega (arith, new_some)) ∙ ap nodes new_formula ∙ omega (arith, new_nodes, b.met)))

  pub in_order : InOrder b.settings n.placed ends
  in_order = record { fitting = g.fitting; met = met; rises = rises; covers = covers }

  pub rules_more : rules_of n.placed ≡ rules_of b.nodes.placed ++ f ∷ []
  rules_more = ap reverse g.one ∙ reverse-cons f (made b.nodes.placed)
