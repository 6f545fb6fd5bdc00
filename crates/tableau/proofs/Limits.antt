-- A walk stays within the limits: what is left to do on a branch never grows past what its start had.
use Rattle.std.proofs.Common.{◌≡◌, ℕ, zero, suc, ◌+◌, ◌<◌, ◌≤◌, true, nat_lt, List, [], ◌∷◌, ◌++◌, map, length, drop, ap, arith}
use Rattle.std.proofs.lemmas.List.{length-append, length-drop}
use Rattle.std.proofs.lemmas.Bool.{cond_both, ltb-true, le-leb, and_from}
use Rattle.plfd.specs.declared.settings.Setting.{Setting}
use Rattle.plfd.specs.Formula.{Formula, total}
use Rattle.tableau.specs.Asks.{Entry, Asks, nothing, clash, narrow, append, split}
use Rattle.tableau.specs.Branches.{Branch, branch_limit, fits, start, asked, expand}
use Rattle.tableau.specs.Walk.{Position, ◌at◌, step, turn, advanced, reached}
use Rattle.tableau.specs.Laws.{Each, Limited, WalkStaysWithinLimits}
use Rattle.tableau.proofs.Entries.{weight, node_count, some_weight, weight-append, weight_rules, length_weight, Lighter, lighter}
use Rattle.tableau.proofs.Walking.{here, behind, at_cursor, behind_grown, each_append, each_step, narrowing}

-- the entries before the cursor and the nodes of the others are within the limit, and each narrowing had its entry
pub record Light (b : Branch) (c : ℕ) : Type 0 where
  pub cursor : c ≤ length b.entries
  pub light : c + weight (drop c b.entries) ≤ branch_limit
  pub narrow_once : b.narrowings ≤ c

pub light_fits : (b : Branch) (c : ℕ) → Light b c → fits b ≡ true
light_fits b c g =
    let few : length b.entries ≤ branch_limit = omega (arith, g.cursor, g.light, length_weight (drop c b.entries), length-drop c b.entries) in
    and_from _ _ (le-leb _ _ few) (le-leb _ _ (omega (arith, few, g.cursor, g.narrow_once)))

pub start_light : (S : List Setting) (rules : List Formula) → total rules ≤ branch_limit → Light (start S rules) 0
start_light S rules few = record { cursor = omega arith; light = omega (arith, weight_rules rules); narrow_once = omega arith }

-- every branch that comes of one that is light is so behind the entry
module _ (b : Branch) (c : ℕ) (l : c < length b.entries) (g : Light b c) where
  abbrev On : Asks → Type 0
  On a = Each Light (map (λ d. d at suc c) (expand a b))

  -- an entry of w nodes is at the cursor
  module _ (w : ℕ) (some : 1 ≤ w) (now : c + (w + weight (behind b c)) ≤ branch_limit) where
    grown_light : (es : List Entry) → weight es < w → (suc c ≤ length (b.entries ++ es)) × (suc c + weight (drop (suc c) (b.entries ++ es)) ≤ branch_limit)
    grown_light es small =
        (omega (arith, length-append b.entries es), omega (arith, ap weight (behind_grown b c es l), weight-append (behind b c) es))

    light_expanded : (a : Asks) → Lighter w a → On a
    light_expanded nothing h = (record { cursor = omega arith; light = omega arith; narrow_once = omega (arith, g.narrow_once) }, tt)
    light_expanded clash h = tt
    light_expanded (narrow a s) h = (record { cursor = omega arith; light = omega arith; narrow_once = omega (arith, g.narrow_once) }, tt)
    light_expanded (append es) h =
        let k = grown_light es h in
        (record { cursor = k.0; light = k.1; narrow_once = omega (arith, g.narrow_once) }, tt)
    light_expanded (split left right) h =
        let k = grown_light left h.0 in
        let m = grown_light right h.1 in
        (record { cursor = k.0; light = k.1; narrow_once = omega (arith, g.narrow_once) }, (record { cursor = m.0; light = m.1; narrow_once = omega (arith, g.narrow_once) }, tt))

  pub light_behind : On (asked b c)
  light_behind =
      light_expanded (node_count (here b c)) (some_weight (here b c))
      (omega (arith, g.light, ap weight (at_cursor b c l)))
      (asked b c) (lighter (here b c))

pub light_turn : (S : List Setting) (b : Branch) (c : ℕ) (ps : List Position) → c < length b.entries → Light b c → Each Light ps → Each Light (turn S b c ps).next
light_turn S b c ps l g h = each_append Light (step S b c (asked b c)).next ps (each_step Light S b c (asked b c) (light_behind b c l g)) h

-- ---- what waits: each waiting split has an entry before the cursor of whoever is in front of it

abbrev Stacked : List Position → Type 0
Stacked [] = Unit {0}
Stacked (b at c ∷ ps) = (length ps ≤ c) × Stacked ps

stacked_step : (S : List Setting) (b : Branch) (c : ℕ) (ps : List Position) (a : Asks) → length ps ≤ c → Stacked ps → Stacked ((step S b c a).next ++ ps)
stacked_step S b c ps nothing l h = (omega arith, h)
stacked_step S b c ps clash l h = h
stacked_step S b c ps (narrow a s) l h = narrowing S b c a s (λ g. Stacked (g.next ++ ps)) (λ _. h) (λ _. (omega arith, h))
stacked_step S b c ps (append es) l h = (omega arith, h)
stacked_step S b c ps (split left right) l h = (omega arith, (omega arith, h))

abbrev Kept : List Position → Type 0
Kept ps = Each Light ps × Stacked ps

kept_advanced : (S : List Setting) (ps : List Position) → Kept ps → Kept (advanced S ps)
kept_advanced S [] h = h
kept_advanced S (b at c ∷ ps) h =
    cond_both (nat_lt c (length b.entries)) _ _ Kept
    (λ e. (light_turn S b c ps (ltb-true _ _ e) h.0.0 h.0.1, stacked_step S b c ps (asked b c) h.1.0 h.1.1))
    (λ _. h)

kept_reached : (S : List Setting) (k : ℕ) (ps : List Position) → Kept ps → Kept (reached S k ps)
kept_reached S zero ps h = h
kept_reached S (suc k) ps h = kept_reached S k (advanced S ps) (kept_advanced S ps h)

each_fits : (ps : List Position) → Each Light ps → Each (λ b c. fits b ≡ true) ps
each_fits [] h = tt
each_fits (b at c ∷ ps) h = (light_fits b c h.0, each_fits ps h.1)

limited : (ps : List Position) → Kept ps → Limited ps
limited [] h = record { splits = omega arith; branches = tt }
limited (b at c ∷ ps) h = record { splits = omega (arith, h.1.0, h.0.0.light); branches = each_fits (b at c ∷ ps) h.0 }

pub walk_stays_within_limits : WalkStaysWithinLimits
walk_stays_within_limits S rules page k =
    limited (reached S k (start S rules at 0 ∷ [])) (kept_reached S k (start S rules at 0 ∷ []) ((start_light S rules page.few, tt), (omega arith, tt)))
