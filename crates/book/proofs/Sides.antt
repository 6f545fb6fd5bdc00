-- The sides of a node: where they end, and how many nodes they have.
use Rattle.std.proofs.Common.{◌≡◌, ℕ, ◌+◌, ◌-◌, ◌<◌, ◌≤◌, List, [], ◌∷◌, length, ap, ◌∙◌, arith}
use Rattle.plfd.specs.Formula.{Formula, nodes, total}
use Rattle.plfd.specs.Code.{top, below}
use Rattle.plfd.proofs.Stacks.{some_nodes}
use Rattle.book.specs.declared.nodes.Nodes.{Nodes}
use Rattle.book.specs.Places.{stack, made, formula_at, placed}
use Rattle.book.proofs.Stack.{some_places, made_all, stack_top, stack_total, below_length}

-- the last node before `end` spans the top formula
module _ (n : Nodes) (end : ℕ) (within : end ≤ length n.placed) (one : 1 ≤ length (stack n.placed end)) where
  pub some : 0 < end
  some = some_places n.placed end one

  pub top_span : (placed n.placed (end - 1)).span ≡ nodes (top (stack n.placed end))
  top_span =
      let h = some in
      let back : end - 1 + 1 ≡ end = omega arith in
      n.spans (end - 1) (omega arith) ∙ ap (λ q. nodes (top (stack n.placed q))) back

  pub top_within : nodes (top (stack n.placed end)) ≤ end
  top_within = (stack_top n.placed n.supplied end some within).within

-- two sides, one behind the other
pub record Sides (n : Nodes) (end left : ℕ) : Type 0 where
  pub place : left + 1 + nodes (top (stack n.placed end)) ≡ end
  pub before : left + 1 < end
  pub formula : formula_at n.placed left ≡ top (below (stack n.placed end))

pub sides : (n : Nodes) (end : ℕ) → end ≤ length n.placed → 2 ≤ length (stack n.placed end) →
    ((placed n.placed (end - 1)).span ≤ end - 1) × Sides n end (end - 1 - (placed n.placed (end - 1)).span)
sides n end within two =
    let ps = n.placed in
    let s = stack ps end in
    let t = stack_top ps n.supplied end (some n end within (omega arith)) within in
    let span = top_span n end within (omega arith) in
    let left : 0 < length (stack ps (end - nodes (top s))) = rw t.rest (omega (arith, below_length s)) in
    let more : 0 < end - nodes (top s) = some_places ps _ left in
    let place : end - 1 - (placed ps (end - 1)).span + 1 ≡ end - nodes (top s) = omega (arith, span) in
    (omega (arith, span), record { place = omega (arith, place, t.within); before = omega (arith, place, some_nodes (top s), t.within); formula = ap (λ q. top (stack ps q)) place ∙ ap top t.rest })

left_span : (n : Nodes) (end left : ℕ) → end ≤ length n.placed → left + 1 < end → formula_at n.placed left ≡ top (below (stack n.placed end)) → (placed n.placed left).span ≡ nodes (top (below (stack n.placed end)))
left_span n end left within before formula = n.spans left (omega arith) ∙ ap nodes formula

two_nodes : (s : List Formula) → 2 ≤ length s → nodes (top s) + nodes (top (below s)) ≤ total s
two_nodes [] h = absurd (omega arith)
two_nodes (f ∷ []) h = absurd (omega arith)
two_nodes (f ∷ g ∷ s) h = omega arith

two_within : (n : Nodes) (end : ℕ) → end ≤ length n.placed → 2 ≤ length (stack n.placed end) → nodes (top (stack n.placed end)) + nodes (top (below (stack n.placed end))) ≤ end
two_within n end within two = omega (arith, two_nodes (stack n.placed end) two, stack_total n.placed n.supplied end within)

-- the spans of the sides that end with the last node
module _ (n : Nodes) where
  abbrev last : ℕ
  last = length n.placed - 1

  pub one_span : 1 ≤ length (made n.placed) → (placed n.placed last).span ≤ length n.placed
  one_span one =
      let one' : 1 ≤ length (stack n.placed (length n.placed)) = rw (made_all n.placed) one in
      omega (arith, top_span n (length n.placed) (omega arith) one', top_within n (length n.placed) (omega arith) one')

  pub two_spans : (left : ℕ) → 2 ≤ length (made n.placed) → left + 1 < length n.placed → formula_at n.placed left ≡ top (below (stack n.placed (length n.placed))) → (placed n.placed left).span + (placed n.placed last).span ≤ length n.placed
  two_spans left two before formula =
      let two' : 2 ≤ length (stack n.placed (length n.placed)) = rw (made_all n.placed) two in
      omega (arith, left_span n (length n.placed) left (omega arith) before formula, top_span n (length n.placed) (omega arith) (omega (arith, two')), two_within n (length n.placed) (omega arith) two')
