-- A list of nodes with more behind it, and with one node more.
use Rattle.std.proofs.Common.{◌≡◌, ℕ, ◌+◌, ◌<◌, ◌≤◌, true, List, [], ◌∷◌, ◌++◌, length, sym, refl, ap, ◌∙◌, ⊎_elim, arith, length-append}
use Rattle.std.proofs.lemmas.List.{take-append-le, get_or_append_left, get_or_push}
use Rattle.std.proofs.lemmas.Bool.{cases_eq}
use Rattle.plfd.specs.declared.settings.Setting.{Setting}
use Rattle.plfd.specs.declared.nodes.Node.{Node}
use Rattle.plfd.specs.Formula.{nodes}
use Rattle.plfd.specs.Code.{arity, top, raise, node_fits}
use Rattle.book.specs.declared.nodes.Placed.{Placed}
use Rattle.book.specs.Places.{raised, stack, made, unplaced, placed, formula_at, record_of, Spans, Supplied, Fitting}
use Rattle.book.proofs.Stack.{raised-append, made_all}

-- the first nodes are as they were
module _ (ps more : List Placed) where
  pub old_stack : (k : ℕ) → k ≤ length ps → stack (ps ++ more) k ≡ stack ps k
  old_stack k h = ap (raised []) (take-append-le k ps more h)

  pub old_placed : (k : ℕ) → k < length ps → placed (ps ++ more) k ≡ placed ps k
  old_placed k h = get_or_append_left ps more unplaced k h

  pub old_formula : (k : ℕ) → k < length ps → formula_at (ps ++ more) k ≡ formula_at ps k
  old_formula k h = ap top (old_stack (k + 1) (omega arith))

-- what held of each node holds of each, if it holds of the one more
each_more : (P : ℕ → Type 0) (ps : List Placed) (p : Placed) → ((k : ℕ) → k < length ps → P k) → P (length ps) → (k : ℕ) → k < length (ps ++ p ∷ []) → P k
each_more P ps p old new k h =
    let long = length-append ps (p ∷ []) in
    ⊎_elim (λ e. rw e new) (λ ne. old k (omega arith)) (cases_eq k (length ps))

module _ (ps : List Placed) (n : Node) where
  abbrev pub with_node : List Placed
  with_node = ps ++ record_of ps n ∷ []

  new_placed : placed with_node (length ps) ≡ record_of ps n
  new_placed = get_or_push ps (record_of ps n) unplaced (length ps) refl

  pub made_more : made with_node ≡ raise (made ps) n
  made_more = raised-append [] ps (record_of ps n ∷ [])

  new_formula : formula_at with_node (length ps) ≡ top (raise (made ps) n)
  new_formula =
      let long : length with_node ≡ length ps + 1 = length-append ps (record_of ps n ∷ []) in
      ap top (ap (stack with_node) (sym long) ∙ made_all with_node ∙ made_more)

  pub spans_more : Spans ps → Spans with_node
  spans_more spans = each_more (λ k. (placed with_node k).span ≡ nodes (formula_at with_node k)) ps (record_of ps n)
      (λ k h. rw (old_placed ps (record_of ps n ∷ []) k h, old_formula ps (record_of ps n ∷ []) k h) (spans k h))
      (rw (new_placed, new_formula) refl)

  pub supplied_more : arity n ≤ length (made ps) → Supplied ps → Supplied with_node
  supplied_more enough supplied = each_more (λ k. arity (placed with_node k).node ≤ length (stack with_node k)) ps (record_of ps n)
      (λ k h. rw (old_placed ps (record_of ps n ∷ []) k h, old_stack ps (record_of ps n ∷ []) k (omega arith)) (supplied k h))
      (rw (new_placed, old_stack ps (record_of ps n ∷ []) (length ps) (omega arith), made_all ps) enough)

  pub fitting_more : (S : List Setting) → node_fits S n ≡ true → Fitting S ps → Fitting S with_node
  fitting_more S fits fitting = each_more (λ k. node_fits S (placed with_node k).node ≡ true) ps (record_of ps n)
      (λ k h. rw (old_placed ps (record_of ps n ∷ []) k h) (fitting k h))
      (rw new_placed fits)
