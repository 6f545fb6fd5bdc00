-- An entry is true exactly where what it asks for is met.
use Rattle.std.proofs.Common.{◌≡◌, Bool, true, false, not, ◌⊎◌, List, [], ◌∷◌, map, refl, inl, inr, ⊎_elim}
use mathlib.Core.Bool.{beq}
use Rattle.std.proofs.lemmas.Bool.{true≢false, false≢true, and_parts, and_cases, and_from, and_left, and_right, or_cases, or_parts, or_from, or_left, or_right, not-true, not-false, not_from_true, not_from_false}
use Rattle.plfd.specs.declared.nodes.Connective.{Connective}
use Rattle.plfd.specs.declared.nodes.Connective.TheVariants.{And, Or, Implies, Iff}
use Rattle.plfd.specs.Formula.{Formula, constant, atom, negation, join, Assignment, truth, joined, named, covers, Keeps}
use Rattle.tableau.specs.Asks.{Entry, ◌is◌, Asks, nothing, clash, narrow, append, split, join_asks, asks}
use Rattle.tableau.proofs.Every.{Every}

-- entries are true in an assignment: each has the truth that its sign says
abbrev pub True : Assignment → Entry → Type 0
True σ (f is s) = truth σ f ≡ s

abbrev pub AllTrue : Assignment → List Entry → Type 0
AllTrue σ es = Every (True σ) es

-- what is asked for is met
abbrev pub Met : Assignment → Asks → Type 0
Met σ nothing = Unit {0}
Met σ clash = ⊥
Met σ (narrow a s) = covers a (σ (named a)) ≡ s
Met σ (append es) = AllTrue σ es
Met σ (split l r) = AllTrue σ l ⊎ AllTrue σ r

-- ---- signs

not_sign : (a s : Bool) → not a ≡ s → a ≡ not s
not_sign a true h = not-true a h
not_sign a false h = not-false a h

sign_not : (a s : Bool) → a ≡ not s → not a ≡ s
sign_not a true h = not_from_false a h
sign_not a false h = not_from_true a h

abbrev Both : Bool → Bool → Bool → Bool → Type 0
Both a s b t = (a ≡ s) × ((b ≡ t) × Unit {0})

same : (a b : Bool) → beq a b ≡ true → Both a true b true ⊎ Both a false b false
same true true h = inl (refl, (refl, tt))
same true false h = absurd (false≢true h)
same false true h = absurd (false≢true h)
same false false h = inr (refl, (refl, tt))

other : (a b : Bool) → beq a b ≡ false → Both a true b false ⊎ Both a false b true
other true true h = absurd (true≢false h)
other true false h = inl (refl, (refl, tt))
other false true h = inr (refl, (refl, tt))
other false false h = absurd (true≢false h)

compared : (a s b t : Bool) → Both a s b t → beq a b ≡ beq s t
compared a s b t h = λ i. beq (h.0 i) (h.1.0 i)

-- ---- connectives

module _ (σ : Assignment) (l r : Formula) where
  met_join : (k : Connective) (s : Bool) → joined k (truth σ l) (truth σ r) ≡ s → Met σ (join_asks k s l r)
  met_join And true h = let p = and_parts _ _ h in (p.0, (p.1, tt))
  met_join And false h = ⊎_elim (λ e. inl (e, tt)) (λ e. inr (e, tt)) (and_cases _ _ h)
  met_join Or true h = ⊎_elim (λ e. inl (e, tt)) (λ e. inr (e, tt)) (or_cases _ _ h)
  met_join Or false h = let p = or_parts _ _ h in (p.0, (p.1, tt))
  met_join Implies true h = ⊎_elim (λ e. inl (not-true _ e, tt)) (λ e. inr (e, tt)) (or_cases _ _ h)
  met_join Implies false h = let p = or_parts _ _ h in (not-false _ p.0, (p.1, tt))
  met_join Iff true h = same _ _ h
  met_join Iff false h = other _ _ h

  join_met : (k : Connective) (s : Bool) → Met σ (join_asks k s l r) → joined k (truth σ l) (truth σ r) ≡ s
  join_met And true m = and_from _ _ m.0 m.1.0
  join_met And false m = ⊎_elim (λ n. and_left _ _ n.0) (λ n. and_right _ _ n.0) m
  join_met Or true m = ⊎_elim (λ n. or_left _ _ n.0) (λ n. or_right _ _ n.0) m
  join_met Or false m = or_from _ _ m.0 m.1.0
  join_met Implies true m = ⊎_elim (λ n. or_left _ _ (not_from_false _ n.0)) (λ n. or_right _ _ n.0) m
  join_met Implies false m = or_from _ _ (not_from_true _ m.0) m.1.0
  join_met Iff true m = ⊎_elim (compared _ true _ true) (compared _ false _ false) m
  join_met Iff false m = ⊎_elim (compared _ true _ false) (compared _ false _ true) m

-- ---- entries

pub met : (σ : Assignment) (e : Entry) → True σ e → Met σ (asks e)
met σ (constant true is true) h = tt
met σ (constant true is false) h = true≢false h
met σ (constant false is true) h = false≢true h
met σ (constant false is false) h = tt
met σ (atom a is s) h = h
met σ (negation f is s) h = (not_sign (truth σ f) s h, tt)
met σ (join k l r is s) h = met_join σ l r k s h

pub meets : (σ : Assignment) (e : Entry) → Met σ (asks e) → True σ e
meets σ (constant true is true) m = refl
meets σ (constant true is false) m = absurd m
meets σ (constant false is true) m = absurd m
meets σ (constant false is false) m = refl
meets σ (atom a is s) m = m
meets σ (negation f is s) m = sign_not (truth σ f) s m.0
meets σ (join k l r is s) m = join_met σ l r k s m

-- ---- lists of entries

-- the entries at a branch's start are the rules
pub keeps_true : (σ : Assignment) (rules : List Formula) → Keeps σ rules → AllTrue σ (map (λ f. f is true) rules)
keeps_true σ [] h = tt
keeps_true σ (f ∷ fs) h = (h.0, keeps_true σ fs h.1)

pub true_keeps : (σ : Assignment) (rules : List Formula) → AllTrue σ (map (λ f. f is true) rules) → Keeps σ rules
true_keeps σ [] h = tt
true_keeps σ (f ∷ fs) h = (h.0, true_keeps σ fs h.1)
