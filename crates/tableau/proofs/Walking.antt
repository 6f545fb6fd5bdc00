-- How a walk goes: one induction for all that is shown of its outcome, and what a turn does to the positions.
use Rattle.std.proofs.Common.{◌≡◌, ℕ, zero, suc, ◌<◌, ◌≤◌, Bool, true, false, nat_lt, List, [], ◌∷◌, ◌++◌, map, length, slice_index_or, drop, arith, drop-cons}
use Rattle.std.proofs.lemmas.List.{drop-append-le}
use Rattle.std.proofs.lemmas.Bool.{cond_both, ltb-true, ltb-false}
use Rattle.plfd.specs.declared.settings.Setting.{Setting}
use Rattle.plfd.specs.declared.nodes.Atom.{Atom}
use Rattle.plfd.specs.Formula.{constant, named}
use Rattle.tableau.specs.Asks.{Entry, ◌is◌, Asks, nothing, clash, narrow, append, split}
use Rattle.tableau.specs.Branches.{Branch, narrowed, expand, empty}
use Rattle.tableau.specs.Walk.{Position, ◌at◌, Step, passed, closing, step, turn, Outcome, found, none, spent, after, walk_on}
use Rattle.tableau.specs.Laws.{Each}

-- what holds of the three ends, and of a walk where it holds of the walk from the next turn on
module _ (S : List Setting) (P : ℕ → List Position → Outcome → Type 0)
    (ends : (n : ℕ) → P n [] (none [] 0))
    (finds : (n : ℕ) (b : Branch) (c : ℕ) (ps : List Position) → length b.entries ≤ c → P n (b at c ∷ ps) (found b.sets 0))
    (stops : (b : Branch) (c : ℕ) (ps : List Position) → c < length b.entries → P 0 (b at c ∷ ps) (spent 0))
    (goes : (n : ℕ) (b : Branch) (c : ℕ) (ps : List Position) → c < length b.entries → (o : Outcome) → P n (turn S b c ps).next o → P (suc n) (b at c ∷ ps) (after (turn S b c ps).commands o)) where
  pub walking : (n : ℕ) (ps : List Position) → P n ps (walk_on S n ps)
  walking n [] = ends n
  walking zero (b at c ∷ ps) =
      cond_both (nat_lt c (length b.entries)) _ _ (P zero (b at c ∷ ps))
      (λ e. stops b c ps (ltb-true _ _ e)) (λ e. finds zero b c ps (ltb-false _ _ e))
  walking (suc n) (b at c ∷ ps) =
      cond_both (nat_lt c (length b.entries)) _ _ (P (suc n) (b at c ∷ ps))
      (λ e. goes n b c ps (ltb-true _ _ e) _ (walking n (turn S b c ps).next)) (λ e. finds (suc n) b c ps (ltb-false _ _ e))

-- ---- a step that narrows a set closes the branch or goes on

pub narrowing : (S : List Setting) (b : Branch) (c : ℕ) (a : Atom) (s : Bool) (P : Step → Type 0) → (empty S (narrowed a s b.sets) (named a) ≡ true → P (closing c a)) → (empty S (narrowed a s b.sets) (named a) ≡ false → P (passed b c (narrow a s))) → P (step S b c (narrow a s))
narrowing S b c a s P = cond_both (empty S (narrowed a s b.sets) (named a)) (closing c a) (passed b c (narrow a s)) P

-- ---- the entry at the cursor, and those behind it

abbrev pub here : Branch → ℕ → Entry
here b c = slice_index_or b.entries c (constant true is true)

abbrev pub behind : Branch → ℕ → List Entry
behind b c = drop (suc c) b.entries

pub at_cursor : (b : Branch) (c : ℕ) → c < length b.entries → drop c b.entries ≡ here b c ∷ behind b c
at_cursor b c l = drop-cons b.entries c (constant true is true) l

pub behind_grown : (b : Branch) (c : ℕ) (es : List Entry) → c < length b.entries → drop (suc c) (b.entries ++ es) ≡ behind b c ++ es
behind_grown b c es l = drop-append-le (suc c) b.entries es (omega arith)

-- ---- what holds of each position

module _ (P : Branch → ℕ → Type 0) where
  pub each_append : (ps qs : List Position) → Each P ps → Each P qs → Each P (ps ++ qs)
  each_append [] qs h k = k
  each_append (b at c ∷ ps) qs h k = (h.0, each_append ps qs h.1 k)

  -- a step gives the expanded branches, or none
  pub each_step : (S : List Setting) (b : Branch) (c : ℕ) (a : Asks) → Each P (map (λ d. d at suc c) (expand a b)) → Each P (step S b c a).next
  each_step S b c nothing h = h
  each_step S b c clash h = h
  each_step S b c (narrow a s) h = narrowing S b c a s (λ g. Each P g.next) (λ _. tt) (λ _. h)
  each_step S b c (append es) h = h
  each_step S b c (split l r) h = h
