-- The stack of formulas that the first nodes of a list make: the top formula's nodes are the last ones.
use Rattle.std.proofs.Common.{◌≡◌, ℕ, zero, suc, ◌+◌, ◌-◌, ◌<◌, ◌≤◌, List, [], ◌∷◌, ◌++◌, length, take, sym, refl, ap, ◌∙◌, subst, arith}
use Rattle.std.proofs.lemmas.List.{take_more, take_all}
use Rattle.plfd.specs.declared.nodes.Node.{Node}
use Rattle.plfd.specs.declared.nodes.Node.TheVariants.{Constant, Atomic, Not, Join}
use Rattle.plfd.specs.Formula.{Formula, nodes, total}
use Rattle.plfd.specs.Code.{arity, top, below, raise}
use Rattle.plfd.proofs.Stacks.{raise_total}
use Rattle.book.specs.declared.nodes.Placed.{Placed}
use Rattle.book.specs.Places.{raised, stack, made, placed, unplaced, Supplied}

pub raised-append : (s : List Formula) (ps qs : List Placed) → raised s (ps ++ qs) ≡ raised (raised s ps) qs
raised-append s [] qs = refl
raised-append s (p ∷ ps) qs = raised-append (raise s p.node) ps qs

pub stack_more : (ps : List Placed) (k : ℕ) → k < length ps → stack ps (k + 1) ≡ raise (stack ps k) (placed ps k).node
stack_more ps k h = ap (raised []) (take_more ps k unplaced h) ∙ raised-append [] (take k ps) (placed ps k ∷ [])

-- all nodes make what stands in the end
pub made_all : (ps : List Placed) → stack ps (length ps) ≡ made ps
made_all ps = ap (raised []) (take_all (length ps) ps (omega arith))

pub some_places : (ps : List Placed) (k : ℕ) → 0 < length (stack ps k) → 0 < k
some_places ps zero h = absurd (omega arith)
some_places ps (suc k) h = omega arith

pub below_length : (s : List Formula) → length (below s) ≡ length s - 1
below_length [] = refl
below_length (f ∷ s) = omega arith

raise-cons : (s : List Formula) (n : Node) → raise s n ≡ top (raise s n) ∷ below (raise s n)
raise-cons s (Constant b) = refl
raise-cons s (Atomic a) = refl
raise-cons s Not = refl
raise-cons s (Join k) = refl

pub stack_cons : (ps : List Placed) (k : ℕ) → 0 < k → k ≤ length ps → stack ps k ≡ top (stack ps k) ∷ below (stack ps k)
stack_cons ps k some l =
    let e : k - 1 + 1 ≡ k = omega arith in
    let is = sym (ap (stack ps) e) ∙ stack_more ps (k - 1) (omega arith) in
    let P : List Formula → Type 0 = λ s. s ≡ top s ∷ below s in
    subst P (sym is) (raise-cons (stack ps (k - 1)) (placed ps (k - 1)).node)

-- the top formula of the stack s of the first k nodes: its nodes are the last of them, and those before make the rest
pub record Top (ps : List Placed) (k : ℕ) (s : List Formula) : Type 0 where
  pub within : nodes (top s) ≤ k
  pub rest : stack ps (k - nodes (top s)) ≡ below s

module _ (ps : List Placed) (supplied : Supplied ps) where
  raise_top : (k : ℕ) (n : Node) → k < length ps → arity n ≤ length (stack ps k) → ((j : ℕ) → j ≤ k → 0 < j → Top ps j (stack ps j)) → Top ps (k + 1) (raise (stack ps k) n)
  raise_top k (Constant b) h a before = let e : k + 1 - 1 ≡ k = omega arith in record { within = omega arith; rest = ap (stack ps) e }
  raise_top k (Atomic x) h a before = let e : k + 1 - 1 ≡ k = omega arith in record { within = omega arith; rest = ap (stack ps) e }
  raise_top k Not h a before =
      let t = before k (omega arith) (some_places ps k a) in
      let g = nodes (top (stack ps k)) in
      let e : k + 1 - (g + 1) ≡ k - g = omega arith in
      record { within = omega (arith, t.within); rest = ap (stack ps) e ∙ t.rest }
  raise_top k (Join c) h a before =
      let s = stack ps k in
      let t = before k (omega arith) (some_places ps k (omega arith)) in
      let g = nodes (top s) in
      let f = nodes (top (below s)) in
      let left : 0 < length (stack ps (k - g)) = rw t.rest (omega (arith, below_length s)) in
      let u = subst (Top ps (k - g)) t.rest (before (k - g) (omega arith) (some_places ps (k - g) left)) in
      let e : k + 1 - (f + g + 1) ≡ k - g - f = omega arith in
      record { within = omega (arith, t.within, u.within); rest = ap (stack ps) e ∙ u.rest }

  up_to : (m k : ℕ) → k ≤ m → 0 < k → k ≤ length ps → Top ps k (stack ps k)
  up_to zero k h some l = absurd (omega arith)
  up_to (suc m) k h some l =
      let j = k - 1 in
      let e : j + 1 ≡ k = omega arith in
      let lt : j < length ps = omega arith in
      let t = raise_top j (placed ps j).node lt (supplied j lt) (λ i le pos. up_to m i (omega arith) pos (omega arith)) in
      subst (λ i. Top ps i (stack ps i)) e (subst (Top ps (j + 1)) (sym (stack_more ps j (omega arith))) t)

  pub stack_top : (k : ℕ) → 0 < k → k ≤ length ps → Top ps k (stack ps k)
  stack_top k some l = up_to k k (omega arith) some l

  -- k nodes are the nodes of the formulas that they make
  pub stack_total : (k : ℕ) → k ≤ length ps → total (stack ps k) ≡ k
  stack_total zero h = refl
  stack_total (suc k) h =
      let e : suc k ≡ k + 1 = omega arith in
      ap (λ j. total (stack ps j)) e
      ∙ ap total (stack_more ps k (omega arith))
      ∙ raise_total (stack ps k) _ (supplied k (omega arith))
      ∙ omega (arith, stack_total k (omega arith))

  pub made_total : total (made ps) ≡ length ps
  made_total = ap total (sym (made_all ps)) ∙ stack_total (length ps) (omega arith)

-- a node makes at most one formula more
raise_few : (s : List Formula) (n : Node) → length (raise s n) ≤ length s + 1
raise_few s (Constant b) = omega arith
raise_few s (Atomic a) = omega arith
raise_few s Not = omega (arith, below_length s)
raise_few s (Join k) = omega (arith, below_length s, below_length (below s))

raised_few : (s : List Formula) (ps : List Placed) → length (raised s ps) ≤ length s + length ps
raised_few s [] = omega arith
raised_few s (p ∷ ps) = omega (arith, raise_few s p.node, raised_few (raise s p.node) ps)

pub made_few : (ps : List Placed) → length (made ps) ≤ length ps
made_few ps = omega (arith, raised_few [] ps)
