-- A closed tableau leaves no assignment; and the tape of a none is a closed tableau, in bytes.
use Rattle.std.proofs.Common.{◌≡◌, ℕ, zero, suc, ◌/◌, ◌%◌, ◌<◌, ◌≤◌, Bool, true, nat_le, List, [], ◌∷◌, ◌++◌, map, length, slice_index_or, sym, refl, ap, ◌∙◌, subst, ⊎_elim, append_assoc, append-nil, arith}
use Rattle.std.proofs.lemmas.Bool.{false≢true, and_from, and_parts, le-leb, leb-true}
use Rattle.plfd.specs.declared.settings.Setting.{Setting}
use Rattle.plfd.specs.declared.nodes.Atom.{Atom}
use Rattle.plfd.specs.Code.{two_bytes}
use Rattle.plfd.specs.Exact.{Bytes}
use Rattle.plfd.specs.Formula.{Formula, constant, Assignment, named, Within}
use Rattle.tableau.specs.declared.commands.Move.{Move}
use Rattle.tableau.specs.declared.commands.Move.TheVariants.{Append, Split, Narrow, Clash}
use Rattle.tableau.specs.declared.commands.Command.{Command}
use Rattle.tableau.specs.declared.commands.Command.TheVariants.{Expand, Empty}
use Rattle.tableau.specs.Asks.{◌is◌, Asks, nothing, clash, narrow, append, split}
use Rattle.tableau.specs.Branches.{Branch, branch_limit, fits, start, asked, cut, expand}
use Rattle.tableau.specs.Tape.{move_byte, spelled, tape}
use Rattle.tableau.specs.Walk.{Position, ◌at◌, Step, step, turn, Outcome, found, none, spent, after, walk_on, walk, is_none, tape_of}
use Rattle.tableau.specs.Tableau.{Closes, by_clash, by_empty, by_append, by_narrow, by_split, Closed}
use Rattle.tableau.specs.Pages.{Picks}
use Rattle.tableau.specs.Laws.{NoneIsClosed, ClosedIsSound, Each}
use Rattle.tableau.proofs.Every.{every_append, every_at}
use Rattle.tableau.proofs.Means.{True, AllTrue, Met, met, keeps_true}
use Rattle.tableau.proofs.Sets.{empty_lacks, picks_narrowed}
use Rattle.tableau.proofs.Entries.{OverAll, OverAsks, over_asked}
use Rattle.tableau.proofs.Walking.{walking, narrowing}
use Rattle.tableau.proofs.Limits.{Light, light_fits, start_light, light_behind, light_turn}
use Rattle.tableau.proofs.Models.{Declared, Live, start_live, live_turn}

-- ---- a closed tableau is sound

met_at : (σ : Assignment) (b : Branch) (k : ℕ) (a : Asks) → AllTrue σ b.entries → asked b k ≡ a → Met σ a
met_at σ b k a h e = subst (Met σ) e (met σ (slice_index_or b.entries k (constant true is true)) (every_at (True σ) b.entries k (constant true is true) refl h))

module _ (S : List Setting) (σ : Assignment) (w : Within S σ) where
  leaves_none : {b : Branch} {t : List ℕ} → Closes S b t → Picks S b.sets σ → AllTrue σ b.entries → ⊥
  leaves_none (by_clash {b = b} k e) p h = met_at σ b k clash h e
  leaves_none (by_empty {b = b} x l e) p h = empty_lacks S b.sets x e (σ x) (w x l) (p x l)
  leaves_none (by_append {b = b} k es e f c) p h = leaves_none c p (every_append (True σ) b.entries es h (met_at σ b k (append es) h e))
  leaves_none (by_narrow {b = b} k a s e f c) p h = leaves_none c (picks_narrowed a s b.sets S σ p (met_at σ b k (narrow a s) h e)) h
  leaves_none (by_split {b = b} k l r e f g c d) p h =
      ⊎_elim
      (λ (m : AllTrue σ l). leaves_none c p (every_append (True σ) b.entries l h m))
      (λ (m : AllTrue σ r). leaves_none d p (every_append (True σ) b.entries r h m))
      (met_at σ b k (split l r) h e)

pub closed_is_sound : ClosedIsSound
closed_is_sound S rules t c σ w k = leaves_none S σ w c w (keeps_true σ rules k)

-- ---- the tape of a none closes

module _ (S : List Setting) where
  -- the bytes close the branches, one after the other
  abbrev CloseAll : List Position → List ℕ → Type 0
  CloseAll [] t = t ≡ []
  CloseAll (b at c ∷ ps) t = (u : List ℕ) × (v : List ℕ) × Closes S b u × CloseAll ps v × (t ≡ u ++ v)

  module _ (b : Branch) (c : ℕ) (l : c < length b.entries) (g : Light b c) (over : OverAll (Declared S) b.entries) (ps : List Position) (t : List ℕ) where
    abbrev Goal : Step → Type 0
    Goal s = CloseAll (s.next ++ ps) t → CloseAll (b at c ∷ ps) (tape s.commands ++ t)

    cut_fits : (a : Atom) (s : Bool) → fits (cut a s b) ≡ true
    cut_fits a s =
        let p : (nat_le (length b.entries) branch_limit ≡ true) × (nat_le b.narrowings branch_limit ≡ true) = and_parts _ _ (light_fits b c g) in
        let few : suc b.narrowings ≤ branch_limit = omega (arith, g.narrow_once, leb-true (length b.entries) branch_limit p.0) in
        and_from _ _ p.0 (le-leb _ _ few)

    expanded_light : (a : Asks) → asked b c ≡ a → Each Light (map (λ d. d at suc c) (expand a b))
    expanded_light a e = subst (λ x. Each Light (map (λ d. d at suc c) (expand x b))) e (light_behind b c l g)

    close_step : (a : Asks) → asked b c ≡ a → OverAsks (Declared S) a → Goal (step S b c a)
    close_step nothing e o h = h
    close_step clash e o h = (spelled (Expand Clash c), t, by_clash c e, h, refl)
    close_step (narrow a s) e o g =
        narrowing S b c a s Goal
        (λ none h. (spelled (Expand Narrow c) ++ spelled (Empty (named a)), t, by_narrow c a s e (cut_fits a s) (by_empty (named a) o none), h, refl))
        (λ _ h. (spelled (Expand Narrow c) ++ h.0, h.1, by_narrow c a s e (cut_fits a s) h.2, h.3, ap (λ u. spelled (Expand Narrow c) ++ u) h.4)) g
    close_step (append es) e o h =
        (spelled (Expand Append c) ++ h.0, h.1, by_append c es e (light_fits _ (suc c) (expanded_light (append es) e).0) h.2, h.3, ap (λ u. spelled (Expand Append c) ++ u) h.4)
    close_step (split left right) e o h =
        let k = h.3 in
        let fit = expanded_light (split left right) e in (
          spelled (Expand Split c) ++ (h.0 ++ k.0),
          k.1,
          by_split c left right e (light_fits _ (suc c) fit.0) (light_fits _ (suc c) fit.1.0) h.2 k.2,
          k.3,
          ap (λ u. spelled (Expand Split c) ++ u) (h.4 ∙ ap (λ u. h.0 ++ u) k.4 ∙ sym (append_assoc h.0 k.0 k.1)),
        )

  abbrev Shown : List Position → Outcome → Type 0
  Shown ps (found T k) = Unit {0}
  Shown ps (none t k) = CloseAll ps t
  Shown ps (spent k) = Unit {0}

  shown_after : (ps qs : List Position) (ms : List Command) (o : Outcome) → ((t : List ℕ) → CloseAll qs t → CloseAll ps (tape ms ++ t)) → Shown qs o → Shown ps (after ms o)
  shown_after ps qs ms (found T k) f h = tt
  shown_after ps qs ms (none t k) f h = f t h
  shown_after ps qs ms (spent k) f h = tt

  shown : (n : ℕ) (ps : List Position) → Each Light ps → Each (Live S) ps → Shown ps (walk_on S n ps)
  shown =
      walking S (λ n ps o. Each Light ps → Each (Live S) ps → Shown ps o)
      (λ n _ _. refl)
      (λ n b c ps l _ _. tt)
      (λ b c ps l _ _. tt)
      (λ n b c ps l o h light live.
      shown_after (b at c ∷ ps) (turn S b c ps).next (turn S b c ps).commands o
      (λ t. close_step b c l light.0 live.0.over ps t (asked b c) refl (over_asked (Declared S) b c live.0.over))
      (h (light_turn S b c ps l light.0 light.1) (live_turn S b c ps live.0 live.1)))

-- ---- bytes

bytes-append : (xs ys : List ℕ) → Bytes xs → Bytes ys → Bytes (xs ++ ys)
bytes-append [] ys h k i = k i
bytes-append (x ∷ xs) ys h k zero = h 0
bytes-append (x ∷ xs) ys h k (suc i) = bytes-append xs ys (λ j. h (suc j)) k i

bytes_none : Bytes []
bytes_none i = omega arith

bytes-cons : (x : ℕ) (xs : List ℕ) → x < 256 → Bytes xs → Bytes (x ∷ xs)
bytes-cons x xs l h zero = l
bytes-cons x xs l h (suc i) = h i

move_small : (m : Move) → move_byte m < 256
move_small Append = omega arith
move_small Split = omega arith
move_small Narrow = omega arith
move_small Clash = omega arith

entry_bytes : (m : Move) (k : ℕ) → k < 65536 → Bytes (spelled (Expand m k))
entry_bytes m k l =
    bytes-cons (move_byte m) (two_bytes k) (move_small m)
    (bytes-cons (k / 256) (k % 256 ∷ []) (omega arith) (bytes-cons (k % 256) [] (omega arith) bytes_none))

empty_bytes : (x : ℕ) → x < 256 → Bytes (spelled (Empty x))
empty_bytes x l = bytes-cons 0x24 (x ∷ []) (omega arith) (bytes-cons x [] l bytes_none)

module _ (S : List Setting) (nameable : length S ≤ 256) where
  step_bytes : (b : Branch) (c : ℕ) (a : Asks) → c < 65536 → OverAsks (Declared S) a → Bytes (tape (step S b c a).commands)
  step_bytes b c nothing l o = bytes_none
  step_bytes b c clash l o = entry_bytes Clash c l
  step_bytes b c (narrow a s) l o =
      narrowing S b c a s (λ g. Bytes (tape g.commands))
      (λ _. bytes-append (spelled (Expand Narrow c)) (spelled (Empty (named a))) (entry_bytes Narrow c l) (empty_bytes (named a) (omega arith)))
      (λ _. entry_bytes Narrow c l)
  step_bytes b c (append es) l o = entry_bytes Append c l
  step_bytes b c (split left right) l o = entry_bytes Split c l

  bytes_after : (ms : List Command) (o : Outcome) → Bytes (tape ms) → Bytes (tape_of o) → Bytes (tape_of (after ms o))
  bytes_after ms (found T k) m h = h
  bytes_after ms (none t k) m h = bytes-append (tape ms) t m h
  bytes_after ms (spent k) m h = h

  told_bytes : (n : ℕ) (ps : List Position) → Each Light ps → Each (Live S) ps → Bytes (tape_of (walk_on S n ps))
  told_bytes =
      walking S (λ n ps o. Each Light ps → Each (Live S) ps → Bytes (tape_of o))
      (λ n _ _. bytes_none)
      (λ n b c ps l _ _. bytes_none)
      (λ b c ps l _ _. bytes_none)
      (λ n b c ps l o h light live.
      bytes_after (turn S b c ps).commands o
      (step_bytes b c (asked b c) (omega (arith, light.0.light)) (over_asked (Declared S) b c live.0.over))
      (h (light_turn S b c ps l light.0 light.1) (live_turn S b c ps live.0 live.1)))

-- ---- the law

closed : (S : List Setting) (rules : List Formula) (o : Outcome) → Shown S (start S rules at 0 ∷ []) o → is_none o ≡ true → Closed S rules (tape_of o)
closed S rules (found T k) h e = absurd (false≢true e)
closed S rules (none t k) h e = subst (Closed S rules) (sym (h.4 ∙ ap (λ u. h.0 ++ u) h.3 ∙ append-nil h.0)) h.2
closed S rules (spent k) h e = absurd (false≢true e)

pub none_is_closed : NoneIsClosed
none_is_closed S rules n page e =
    let ps = start S rules at 0 ∷ [] in
    let light : Each Light ps = (start_light S rules page.few, tt) in
    let live : Each (Live S) ps = (start_live S rules page, tt) in
    (closed S rules (walk S rules n) (shown S n ps light live) e, told_bytes S page.nameable n ps light live)
