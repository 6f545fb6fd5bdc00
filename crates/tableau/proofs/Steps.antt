-- How many steps a walk takes, and how many bytes it tells.
use Rattle.std.proofs.Common.{◌≡◌, ℕ, zero, suc, ◌+◌, ◌-◌, ◌*◌, ◌^◌, ◌<◌, ◌≤◌, List, [], ◌∷◌, ◌++◌, length, drop, refl, ap, ◌∙◌, pow-suc, arith, pow_pos, pow_mono}
use lib.Pow.{pow-lt}
use Rattle.std.proofs.lemmas.List.{length-append}
use Rattle.std.proofs.lemmas.Bool.{false≢true}
use Rattle.plfd.specs.declared.settings.Setting.{Setting}
use Rattle.plfd.specs.Formula.{Formula, total}
use Rattle.tableau.specs.declared.commands.Command.{Command}
use Rattle.tableau.specs.Asks.{Entry, Asks, nothing, clash, narrow, append, split}
use Rattle.tableau.specs.Branches.{Branch, start, asked}
use Rattle.tableau.specs.Tape.{tape}
use Rattle.tableau.specs.Walk.{Position, ◌at◌, step, turn, Outcome, found, none, spent, after, walk_on, walk, steps, tape_of}
use Rattle.tableau.specs.Laws.{Allowed, WalkKeepsItsAllowance, TapeStaysShort}
use Rattle.tableau.proofs.Entries.{weight, node_count, some_weight, weight-append, weight_rules, Lighter, lighter}
use Rattle.tableau.proofs.Walking.{walking, here, behind, at_cursor, behind_grown, narrowing}

-- ---- 2 ^ w - 1 steps are enough for a branch whose entries from the cursor on have w nodes

abbrev left : Branch → ℕ → ℕ
left b c = weight (drop c b.entries)

abbrev steps_left : List Position → ℕ
steps_left [] = 0
steps_left (b at c ∷ ps) = (2 ^ left b c - 1) + steps_left ps

steps_left-append : (ps qs : List Position) → steps_left (ps ++ qs) ≡ steps_left ps + steps_left qs
steps_left-append [] qs = omega arith
steps_left-append (b at c ∷ ps) qs = omega (arith, steps_left-append ps qs)

two_powers : (l r w : ℕ) → l < w → r < w → 2 ^ l + 2 ^ r ≤ 2 ^ w
two_powers l r zero h k = absurd (omega arith)
two_powers l r (suc w) h k =
    let a : 2 ^ l ≤ 2 ^ w = pow_mono (omega arith) in
    let b : 2 ^ r ≤ 2 ^ w = pow_mono (omega arith) in
    omega (arith, pow-suc 2 w)

module _ (S : List Setting) (b : Branch) (c : ℕ) (l : c < length b.entries) where
  here_left : left b c ≡ node_count (here b c) + weight (behind b c)
  here_left = ap weight (at_cursor b c l)

  grown_left : (es : List Entry) → weight (drop (suc c) (b.entries ++ es)) ≡ weight (behind b c) + weight es
  grown_left es = ap weight (behind_grown b c es l) ∙ weight-append (behind b c) es

  -- an entry of v nodes is at the cursor
  fewer : (v : ℕ) (a : Asks) → 1 ≤ v → Lighter v a → steps_left (step S b c a).next + 1 ≤ 2 ^ (v + weight (behind b c)) - 1
  fewer v a some small = go a small
    where
      some_now : 0 < 2 ^ weight (behind b c)
      some_now = pow_pos (weight (behind b c))

      more_before : 2 ^ weight (behind b c) < 2 ^ (v + weight (behind b c))
      more_before = pow-lt (omega arith)

      go : (a : Asks) → Lighter v a → steps_left (step S b c a).next + 1 ≤ 2 ^ (v + weight (behind b c)) - 1
      go nothing h = omega (arith, some_now, more_before)
      go clash h = omega (arith, some_now, more_before)
      go (narrow a s) h =
          narrowing S b c a s (λ g. steps_left g.next + 1 ≤ 2 ^ (v + weight (behind b c)) - 1)
          (λ _. omega (arith, some_now, more_before)) (λ _. omega (arith, some_now, more_before))
      go (append es) h =
          let k : 2 ^ weight (drop (suc c) (b.entries ++ es)) < 2 ^ (v + weight (behind b c)) = pow-lt (omega (arith, grown_left es)) in
          omega (arith, some_now, more_before)
      go (split l r) h =
          let x = weight (drop (suc c) (b.entries ++ l)) in
          let y = weight (drop (suc c) (b.entries ++ r)) in
          let k = two_powers x y (v + weight (behind b c)) (omega (arith, grown_left l)) (omega (arith, grown_left r)) in
          omega (arith, pow_pos x, pow_pos y)

  turn_fewer : (ps : List Position) → steps_left (turn S b c ps).next < steps_left (b at c ∷ ps)
  turn_fewer ps =
      let e = ap (λ n. 2 ^ n) here_left in
      omega (arith, steps_left-append (step S b c (asked b c)).next ps, fewer (node_count (here b c)) (asked b c) (some_weight (here b c)) (lighter (here b c)))

  turn_some : 1 < 2 ^ left b c
  turn_some = pow-lt {i = 0} (omega (arith, here_left, some_weight (here b c)))

-- n steps are allowed, and m are enough
abbrev Bounded : ℕ → ℕ → Outcome → Type 0
Bounded n m (found T k) = k ≤ n
Bounded n m (none t k) = k ≤ n
Bounded n m (spent k) = (k ≡ n) × (n < m)

bounded_after : (n m m' : ℕ) (ms : List Command) (o : Outcome) → m' < m → Bounded n m' o → Bounded (suc n) m (after ms o)
bounded_after n m m' ms (found T k) l h = omega arith
bounded_after n m m' ms (none t k) l h = omega arith
bounded_after n m m' ms (spent k) l h = omega arith

bounded : (S : List Setting) (n : ℕ) (ps : List Position) → Bounded n (steps_left ps) (walk_on S n ps)
bounded S =
    walking S (λ n ps o. Bounded n (steps_left ps) o)
    (λ n. omega arith)
    (λ n b c ps l. omega arith)
    (λ b c ps l. omega (arith, turn_some S b c l))
    (λ n b c ps l o h. bounded_after n _ _ (turn S b c ps).commands o (turn_fewer S b c l ps) h)

allowed : (rules : List Formula) (n m : ℕ) (o : Outcome) → m ≡ 2 ^ total rules - 1 → Bounded n m o → Allowed rules n o
allowed rules n m (found T k) e h = record { within = h; spent_with_all = λ s. absurd (false≢true s); enough = λ _. refl }
allowed rules n m (none t k) e h = record { within = h; spent_with_all = λ s. absurd (false≢true s); enough = λ _. refl }
allowed rules n m (spent k) e h = record { within = omega arith; spent_with_all = λ _. h.0; enough = λ l. absurd (omega arith) }

pub walk_keeps_its_allowance : WalkKeepsItsAllowance
walk_keeps_its_allowance S rules n =
    let e : steps_left (start S rules at 0 ∷ []) ≡ 2 ^ total rules - 1 = omega (arith, ap (λ w. 2 ^ w) (weight_rules rules)) in
    allowed rules n _ (walk S rules n) e (bounded S n (start S rules at 0 ∷ []))

-- ---- a step tells at most five bytes

step_bytes : (S : List Setting) (b : Branch) (c : ℕ) (a : Asks) → length (tape (step S b c a).commands) ≤ 5
step_bytes S b c nothing = omega arith
step_bytes S b c clash = omega arith
step_bytes S b c (narrow a s) = narrowing S b c a s (λ g. length (tape g.commands) ≤ 5) (λ _. omega arith) (λ _. omega arith)
step_bytes S b c (append es) = omega arith
step_bytes S b c (split l r) = omega arith

abbrev Short : Outcome → Type 0
Short o = length (tape_of o) ≤ 5 * steps o

short_after : (ms : List Command) (o : Outcome) → length (tape ms) ≤ 5 → Short o → Short (after ms o)
short_after ms (found T k) l h = omega arith
short_after ms (none t k) l h = omega (arith, length-append (tape ms) t)
short_after ms (spent k) l h = omega arith

pub tape_stays_short : TapeStaysShort
tape_stays_short S rules n l =
    let short =
    walking S (λ n ps o. Short o) (λ n. omega arith) (λ n b c ps k. omega arith) (λ b c ps k. omega arith)
    (λ n b c ps k o h. short_after (turn S b c ps).commands o (step_bytes S b c (asked b c)) h)
    n (start S rules at 0 ∷ []) in
    omega (arith, short, (walk_keeps_its_allowance S rules n).within)
