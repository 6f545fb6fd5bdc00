-- What an entry asks for names no further setting, and has fewer nodes than the entry.
use Rattle.std.proofs.Common.{◌≡◌, ℕ, ◌+◌, ◌<◌, ◌≤◌, Bool, true, false, List, [], ◌∷◌, ◌++◌, map, length, slice_index_or, refl, ap, ⊎_elim, arith}
use Rattle.std.proofs.lemmas.Bool.{false≢true, eqb-true, eq-eqb, ltb-true, and_parts, or_cases, or_left, or_right}
use Rattle.plfd.specs.declared.settings.Setting.{Setting}
use Rattle.plfd.specs.declared.nodes.Connective.{Connective}
use Rattle.plfd.specs.declared.nodes.Connective.TheVariants.{And, Or, Implies, Iff}
use Rattle.plfd.specs.Formula.{Formula, constant, atom, negation, join, named, nodes, total, well_formed, all_formed}
use Rattle.plfd.proofs.Stacks.{some_nodes}
use Rattle.tableau.specs.Asks.{Entry, ◌is◌, Asks, nothing, clash, narrow, append, split, join_asks, asks}
use Rattle.tableau.specs.Branches.{Branch, asked}
use Rattle.tableau.specs.Pages.{names, named_by}
use Rattle.tableau.proofs.Every.{Every, every_at}

-- the shapes of what a connective asks for
module _ (P : Asks → Type 0) (l r : Formula)
    (appended : (s t : Bool) → P (append (l is s ∷ r is t ∷ [])))
    (one_each : (s t : Bool) → P (split (l is s ∷ []) (r is t ∷ [])))
    (two_each : (s t s' t' : Bool) → P (split (l is s ∷ r is t ∷ []) (l is s' ∷ r is t' ∷ []))) where
  by_shape : (k : Connective) (s : Bool) → P (join_asks k s l r)
  by_shape And true = appended true true
  by_shape And false = one_each false false
  by_shape Or true = one_each true true
  by_shape Or false = appended false false
  by_shape Implies true = one_each false true
  by_shape Implies false = appended true false
  by_shape Iff true = two_each true true false false
  by_shape Iff false = two_each true false false true

-- ---- names

module _ (N : ℕ → Type 0) where
  -- every setting that is named has the property N
  abbrev pub Over : Entry → Type 0
  Over (f is s) = (x : ℕ) → names x f ≡ true → N x

  abbrev pub OverAll : List Entry → Type 0
  OverAll es = Every Over es

  abbrev pub OverAsks : Asks → Type 0
  OverAsks nothing = Unit {0}
  OverAsks clash = Unit {0}
  OverAsks (narrow a s) = N (named a)
  OverAsks (append es) = OverAll es
  OverAsks (split l r) = OverAll l × OverAll r

  over_join : (k : Connective) (s : Bool) (l r : Formula) → Over (join k l r is s) → OverAsks (join_asks k s l r)
  over_join k s l r h =
      let left : (t : Bool) → Over (l is t) = λ t x e. h x (or_left (names x l) (names x r) e) in
      let right : (t : Bool) → Over (r is t) = λ t x e. h x (or_right (names x l) (names x r) e) in
      by_shape OverAsks l r
      (λ s t. (left s, (right t, tt)))
      (λ s t. ((left s, tt), (right t, tt)))
      (λ s t s' t'. ((left s, (right t, tt)), (left s', (right t', tt))))
      k s

  over_asks : (e : Entry) → Over e → OverAsks (asks e)
  over_asks (constant true is true) h = tt
  over_asks (constant true is false) h = tt
  over_asks (constant false is true) h = tt
  over_asks (constant false is false) h = tt
  over_asks (atom a is s) h = h (named a) (eq-eqb (named a) (named a) refl)
  over_asks (negation f is s) h = (h, tt)
  over_asks (join k l r is s) h = over_join k s l r h

  pub over_asked : (b : Branch) (k : ℕ) → OverAll b.entries → OverAsks (asked b k)
  over_asked b k h = over_asks (slice_index_or b.entries k (constant true is true)) (every_at Over b.entries k (constant true is true) (λ x e. absurd (false≢true e)) h)

  pub over_rules : (rules : List Formula) → ((x : ℕ) → named_by rules x ≡ true → N x) → OverAll (map (λ f. f is true) rules)
  over_rules [] h = tt
  over_rules (f ∷ fs) h = (λ x e. h x (or_left (names x f) (named_by fs x) e), over_rules fs (λ x e. h x (or_right (names x f) (named_by fs x) e)))

-- a well formed rule names declared settings
formed_names : (S : List Setting) (f : Formula) → well_formed S f ≡ true → (x : ℕ) → names x f ≡ true → x < length S
formed_names S (constant b) h x e = absurd (false≢true e)
formed_names S (atom a) h x e = let same = eqb-true x (named a) e in omega (arith, ltb-true (named a) (length S) (and_parts _ _ h).0)
formed_names S (negation f) h x e = formed_names S f h x e
formed_names S (join k f g) h x e =
    let p = and_parts _ _ h in
    ⊎_elim (formed_names S f p.0 x) (formed_names S g p.1 x) (or_cases _ _ e)

pub rules_name : (S : List Setting) (rules : List Formula) → all_formed S rules ≡ true → (x : ℕ) → named_by rules x ≡ true → x < length S
rules_name S [] h x e = absurd (false≢true e)
rules_name S (f ∷ fs) h x e =
    let p = and_parts _ _ h in
    ⊎_elim (formed_names S f p.0 x) (rules_name S fs p.1 x) (or_cases _ _ e)

-- ---- weights

-- the nodes of an entry, and those of several
abbrev pub node_count : Entry → ℕ
node_count (f is s) = nodes f

abbrev pub weight : List Entry → ℕ
weight [] = 0
weight (e ∷ es) = node_count e + weight es

pub some_weight : (e : Entry) → 1 ≤ node_count e
some_weight (f is s) = some_nodes f

pub weight-append : (xs ys : List Entry) → weight (xs ++ ys) ≡ weight xs + weight ys
weight-append [] ys = omega arith
weight-append (x ∷ xs) ys = omega (arith, weight-append xs ys)

pub weight_rules : (rules : List Formula) → weight (map (λ f. f is true) rules) ≡ total rules
weight_rules [] = refl
weight_rules (f ∷ fs) = ap (λ n. nodes f + n) (weight_rules fs)

pub length_weight : (es : List Entry) → length es ≤ weight es
length_weight [] = omega arith
length_weight (e ∷ es) = omega (arith, length_weight es, some_weight e)

-- what is asked for has fewer than w nodes, each part of a split by itself
abbrev pub Lighter : ℕ → Asks → Type 0
Lighter w nothing = Unit {0}
Lighter w clash = Unit {0}
Lighter w (narrow a s) = Unit {0}
Lighter w (append es) = weight es < w
Lighter w (split l r) = (weight l < w) × (weight r < w)

pub lighter : (e : Entry) → Lighter (node_count e) (asks e)
lighter (constant true is true) = tt
lighter (constant true is false) = tt
lighter (constant false is true) = tt
lighter (constant false is false) = tt
lighter (atom a is s) = tt
lighter (negation f is s) = omega arith
lighter (join k l r is s) =
    by_shape (Lighter (nodes l + nodes r + 1)) l r (λ s t. omega arith) (λ s t. (omega arith, omega arith)) (λ s t s' t'. (omega arith, omega arith)) k s
