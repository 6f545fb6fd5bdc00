-- A step keeps exactly the models of a branch, so the walk's answer is right.
use Rattle.std.proofs.Common.{◌≡◌, ℕ, suc, ◌<◌, ◌≤◌, Bool, true, false, ◌⊎◌, List, [], ◌∷◌, ◌++◌, length, drop, sym, refl, ap, ◌∙◌, subst, inl, inr, ⊎_elim, arith}
use Rattle.std.proofs.lemmas.List.{drop_all}
use Rattle.std.proofs.lemmas.Bool.{true≢false, false≢true, cases_eq, cases_lt}
use Rattle.plfd.specs.declared.settings.Setting.{Setting}
use Rattle.plfd.specs.declared.nodes.Atom.{Atom}
use Rattle.plfd.specs.Settings.{domain, setting}
use Rattle.plfd.specs.Formula.{Formula, Assignment, named, Keeps, Within}
use Rattle.tableau.specs.declared.commands.Command.{Command}
use Rattle.tableau.specs.Asks.{Entry, Asks, nothing, clash, narrow, append, split}
use Rattle.tableau.specs.Branches.{Sets, Branch, start, asked, narrowed, none_below, cut, empty}
use Rattle.tableau.specs.Walk.{Position, ◌at◌, step, turn, Outcome, found, none, spent, after, walk_on, walk}
use Rattle.tableau.specs.Pages.{Filled, Holdable, Picks}
use Rattle.tableau.specs.Laws.{Keeping, Decided, WalkDecides, Each}
use Rattle.tableau.proofs.Every.{every_append, every_parts}
use Rattle.tableau.proofs.Means.{True, AllTrue, Met, met, meets, keeps_true, true_keeps}
use Rattle.tableau.proofs.Sets.{filled_if, empty_lacks, not_empty, narrowed_other, narrowed_within, picks_narrowed, picks_before, picks_allowed}
use Rattle.tableau.proofs.Entries.{Over, OverAll, OverAsks, over_asked, over_rules, rules_name}
use Rattle.tableau.proofs.Walking.{walking, here, behind, at_cursor, behind_grown, each_append, narrowing}

module _ (S : List Setting) where
  -- an assignment models a branch: it picks from the sets, and every entry from the cursor on is true in it
  abbrev Models : Assignment → Branch → ℕ → Type 0
  Models σ b c = Picks S b.sets σ × AllTrue σ (drop c b.entries)

  abbrev Any : Assignment → List Position → Type 0
  Any σ [] = ⊥
  Any σ (b at c ∷ ps) = Models σ b c ⊎ Any σ ps

  any_left : (σ : Assignment) (ps qs : List Position) → Any σ ps → Any σ (ps ++ qs)
  any_left σ [] qs h = absurd h
  any_left σ (b at c ∷ ps) qs (inl h) = inl h
  any_left σ (b at c ∷ ps) qs (inr h) = inr (any_left σ ps qs h)

  any_right : (σ : Assignment) (ps qs : List Position) → Any σ qs → Any σ (ps ++ qs)
  any_right σ [] qs h = h
  any_right σ (b at c ∷ ps) qs h = inr (any_right σ ps qs h)

  any_cases : (σ : Assignment) (ps qs : List Position) → Any σ (ps ++ qs) → Any σ ps ⊎ Any σ qs
  any_cases σ [] qs h = inr h
  any_cases σ (b at c ∷ ps) qs (inl h) = inl (inl h)
  any_cases σ (b at c ∷ ps) qs (inr h) = ⊎_elim (λ k. inl (inr k)) inr (any_cases σ ps qs h)

  -- ---- what a walk keeps of its branches

  abbrev pub Declared : ℕ → Type 0
  Declared x = x < length S

  -- the entries name declared settings; the sets hold choices of their settings, and none of them is empty
  pub record Live (b : Branch) (c : ℕ) : Type 0 where
    pub over : OverAll Declared b.entries
    pub inside : (x v : ℕ) → b.sets x v ≡ true → domain (setting S x) v ≡ true
    pub filled : (x : ℕ) → x < length S → empty S b.sets x ≡ false

  pub start_live : (rules : List Formula) → Holdable S rules → Live (start S rules) 0
  start_live rules page = record {
    over = over_rules Declared rules (rules_name S rules page.formed);
    inside = λ x v h. h;
    filled = λ x l. let c = page.choosable x l in not_empty S (λ y. domain (setting S y)) x c.0 c.1 c.1;
  }

  narrowed_filled : (a : Atom) (s : Bool) (T : Sets) → ((x : ℕ) → x < length S → empty S T x ≡ false) → empty S (narrowed a s T) (named a) ≡ false → (x : ℕ) → x < length S → empty S (narrowed a s T) x ≡ false
  narrowed_filled a s T before here x l =
      ⊎_elim
      (λ (e : x ≡ named a). ap (empty S (narrowed a s T)) e ∙ here)
      (λ e. ap (none_below (setting S x).size) (narrowed_other a s T x e) ∙ before x l)
      (cases_eq x (named a))

  grown_live : (b : Branch) (c d : ℕ) (es : List Entry) → Live b c → OverAll Declared es → Live (record { entries = b.entries ++ es; sets = b.sets; narrowings = b.narrowings }) d
  grown_live b c d es g h = record { over = every_append (Over Declared) b.entries es g.over h; inside = g.inside; filled = g.filled }

  live_step : (b : Branch) (c : ℕ) (a : Asks) → Live b c → OverAsks Declared a → Each Live (step S b c a).next
  live_step b c nothing g h = (record { over = g.over; inside = g.inside; filled = g.filled }, tt)
  live_step b c clash g h = tt
  live_step b c (narrow a s) g h =
      narrowing S b c a s (λ t. Each Live t.next) (λ _. tt)
      (λ k. (
        record {
          over = g.over;
          inside = λ x v m. g.inside x v (narrowed_within a s b.sets x v m);
          filled = narrowed_filled a s b.sets g.filled k;
        },
        tt,
      ))
  live_step b c (append es) g h = (grown_live b c (suc c) es g h, tt)
  live_step b c (split l r) g h = (grown_live b c (suc c) l g h.0, (grown_live b c (suc c) r g h.1, tt))

  pub live_turn : (b : Branch) (c : ℕ) (ps : List Position) → Live b c → Each Live ps → Each Live (turn S b c ps).next
  live_turn b c ps g h = each_append Live (step S b c (asked b c)).next ps (live_step b c (asked b c) g (over_asked Declared b c g.over)) h

  -- ---- the models of a branch are those of what its step makes of it

  module _ (σ : Assignment) (b : Branch) (c : ℕ) (l : c < length b.entries) where
    grown_true : (es : List Entry) → AllTrue σ (behind b c) → AllTrue σ es → AllTrue σ (drop (suc c) (b.entries ++ es))
    grown_true es h k = subst (AllTrue σ) (sym (behind_grown b c es l)) (every_append (True σ) (behind b c) es h k)

    true_grown : (es : List Entry) → AllTrue σ (drop (suc c) (b.entries ++ es)) → AllTrue σ (behind b c) × AllTrue σ es
    true_grown es h = every_parts (True σ) (behind b c) es (subst (AllTrue σ) (behind_grown b c es l) h)

    step_to : Within S σ → (a : Asks) → OverAsks Declared a → Picks S b.sets σ → AllTrue σ (behind b c) → Met σ a → Any σ (step S b c a).next
    step_to w nothing o p h m = inl (p, h)
    step_to w clash o p h m = m
    step_to w (narrow a s) o p h m =
        let q = picks_narrowed a s b.sets S σ p m in
        narrowing S b c a s (λ t. Any σ t.next)
        (λ e. empty_lacks S (narrowed a s b.sets) (named a) e (σ (named a)) (w (named a) o) (q (named a) o)) (λ _. inl (q, h))
    step_to w (append es) o p h m = inl (p, grown_true es h m)
    step_to w (split left right) o p h (inl m) = inl (p, grown_true left h m)
    step_to w (split left right) o p h (inr m) = inr (inl (p, grown_true right h m))

    abbrev Before : Asks → Type 0
    Before a = Picks S b.sets σ × (AllTrue σ (behind b c) × Met σ a)

    cut_from : (a : Atom) (s : Bool) → named a < length S → Any σ (cut a s b at suc c ∷ []) → Before (narrow a s)
    cut_from a s o (inl h) = (picks_before a s b.sets S σ h.0, (h.1, picks_allowed a s b.sets S σ o h.0))
    cut_from a s o (inr h) = absurd h

    step_from : (a : Asks) → OverAsks Declared a → Any σ (step S b c a).next → Before a
    step_from nothing o (inl h) = (h.0, (h.1, tt))
    step_from nothing o (inr h) = absurd h
    step_from clash o h = absurd h
    step_from (narrow a s) o h =
        narrowing S b c a s (λ t. Any σ t.next → Before (narrow a s)) (λ _ k. absurd k) (λ _ k. cut_from a s o k) h
    step_from (append es) o (inl h) = let k = true_grown es h.1 in (h.0, (k.0, k.1))
    step_from (append es) o (inr h) = absurd h
    step_from (split left right) o (inl h) = let k = true_grown left h.1 in (h.0, (k.0, inl k.1))
    step_from (split left right) o (inr (inl h)) = let k = true_grown right h.1 in (h.0, (k.0, inr k.1))
    step_from (split left right) o (inr (inr h)) = absurd h

    turn_to : Within S σ → OverAll Declared b.entries → (ps : List Position) → Any σ (b at c ∷ ps) → Any σ (turn S b c ps).next
    turn_to w o ps (inl h) =
        let t = subst (AllTrue σ) (at_cursor b c l) h.1 in
        any_left σ (step S b c (asked b c)).next ps (step_to w (asked b c) (over_asked Declared b c o) h.0 t.1 (met σ (here b c) t.0))
    turn_to w o ps (inr h) = any_right σ (step S b c (asked b c)).next ps h

    turn_from : OverAll Declared b.entries → (ps : List Position) → Any σ (turn S b c ps).next → Any σ (b at c ∷ ps)
    turn_from o ps h =
        ⊎_elim
        (λ k. let m = step_from (asked b c) (over_asked Declared b c o) k in inl (m.0, subst (AllTrue σ) (sym (at_cursor b c l)) (meets σ (here b c) m.1.1, m.1.0)))
        inr
        (any_cases σ (step S b c (asked b c)).next ps h)

  -- ---- the outcome

  -- what an outcome says of the branches that the walk came from
  abbrev Says : List Position → Outcome → Type 0
  Says ps (found T k) = ((x : ℕ) → x < length S → Filled (T x)) × ((σ : Assignment) → Picks S T σ → Within S σ × Any σ ps)
  Says ps (none t k) = (σ : Assignment) → Within S σ → Any σ ps → ⊥
  Says ps (spent k) = Unit {0}

  says_after : (ps qs : List Position) (ms : List Command) (o : Outcome) → ((σ : Assignment) → Within S σ → Any σ ps → Any σ qs) → ((σ : Assignment) → Any σ qs → Any σ ps) → Says qs o → Says ps (after ms o)
  says_after ps qs ms (found T k) to from h = (h.0, λ σ p. let r = h.1 σ p in (r.0, from σ r.1))
  says_after ps qs ms (none t k) to from h = λ σ w a. h σ w (to σ w a)
  says_after ps qs ms (spent k) to from h = tt

  says : (n : ℕ) (ps : List Position) → Each Live ps → Says ps (walk_on S n ps)
  says =
      walking S (λ n ps o. Each Live ps → Says ps o)
      (λ n _ σ w a. a)
      (λ n b c ps l live. (
        (λ x d. filled_if S b.sets x (live.0.filled x d)),
        (λ σ p. ((λ x d. live.0.inside x (σ x) (p x d)), inl (p, subst (AllTrue σ) (sym (drop_all c b.entries l)) tt))),
      ))
      (λ b c ps l _. tt)
      (λ n b c ps l o h live.
      says_after (b at c ∷ ps) (turn S b c ps).next (turn S b c ps).commands o
      (λ σ w. turn_to σ b c l w live.0.over ps)
      (λ σ. turn_from σ b c l live.0.over ps)
      (h (live_turn b c ps live.0 live.1)))

  -- ---- the law

  only_start : (rules : List Formula) (σ : Assignment) → Any σ (start S rules at 0 ∷ []) → Keeps σ rules
  only_start rules σ (inl h) = true_keeps σ rules h.1
  only_start rules σ (inr h) = absurd h

  keeping : (rules : List Formula) (T : Sets) (k : ℕ) → Says (start S rules at 0 ∷ []) (found T k) → Keeping S rules T
  keeping rules T k h = record { filled = h.0; kept = λ σ p. let r = h.1 σ p in (r.0, only_start rules σ r.1) }

  -- some assignment picks from sets of which none is empty
  picked : (T : Sets) → ((x : ℕ) → x < length S → Filled (T x)) → (σ : Assignment) × Picks S T σ
  picked T filled = (σ, picks)
    where
      pick : (x : ℕ) → (x < length S) ⊎ (length S ≤ x) → ℕ
      pick x (inl l) = (filled x l).0
      pick x (inr l) = 0

      σ : Assignment
      σ x = pick x (cases_lt x (length S))

      member : (x : ℕ) → x < length S → (o : (x < length S) ⊎ (length S ≤ x)) → T x (pick x o) ≡ true
      member x l (inl k) = (filled x k).1
      member x l (inr k) = absurd (omega arith)

      picks : Picks S T σ
      picks x l = member x l (cases_lt x (length S))

  decided : (rules : List Formula) (o : Outcome) → Says (start S rules at 0 ∷ []) o → Decided S rules o
  decided rules (found T k) h =
      let g = keeping rules T k h in
      record {
        none_exactly = λ _. (
          (λ e. absurd (false≢true e)),
          (λ no. let p = picked T g.filled in let r = g.kept p.0 p.1 in absurd (no p.0 r.0 r.1)),
        );
        finding = g;
      }
  decided rules (none t k) h = record { none_exactly = λ _. ((λ _ σ w a. h σ w (inl (w, keeps_true σ rules a))), (λ _. refl)); finding = tt }
  decided rules (spent k) h = record { none_exactly = λ e. absurd (true≢false e); finding = tt }

pub walk_decides : WalkDecides
walk_decides S rules n page = decided S rules (walk S rules n) (says S n (start S rules at 0 ∷ []) (start_live S rules page, tt))
