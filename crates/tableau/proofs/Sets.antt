-- Sets: when one is empty, and what narrowing makes of them.
use Rattle.std.proofs.Common.{◌≡◌, ℕ, zero, suc, ◌<◌, Bool, true, false, ◌&&◌, ◌==◌, List, length, sym, refl, ap, ◌∙◌, ⊎_elim, arith}
use Rattle.std.proofs.lemmas.Bool.{true≢false, eqb-true, eq-eqb, ne_eqb, ltb-true, cases_eq, cases_Bool, and_parts, and_from, cond_both, cond-true, cond-false, not-true, not_from_false}
use Rattle.plfd.specs.declared.settings.Setting.{Setting}
use Rattle.plfd.specs.declared.nodes.Atom.{Atom}
use Rattle.plfd.specs.Settings.{domain, setting}
use Rattle.plfd.specs.Formula.{Assignment, named, covers}
use Rattle.tableau.specs.Branches.{Sets, allows, narrowed, none_below, empty}
use Rattle.tableau.specs.Pages.{Filled, Picks}

-- ---- emptiness

none_is : (n : ℕ) (p : ℕ → Bool) → none_below n p ≡ true → (c : ℕ) → c < n → p c ≡ true → ⊥
none_is zero p h c l k = absurd (omega arith)
none_is (suc n) p h c l k =
    ⊎_elim
    (λ (e : c ≡ n). true≢false (sym k ∙ ap p e ∙ not-true (p n) (and_parts _ _ h).0))
    (λ e. none_is n p (and_parts _ _ h).1 c (omega arith) k)
    (cases_eq c n)

some_is : (n : ℕ) (p : ℕ → Bool) → none_below n p ≡ false → Filled p
some_is zero p h = absurd (true≢false h)
some_is (suc n) p h =
    ⊎_elim (λ e. (n, e)) (λ e. some_is n p (ap (λ b. b && none_below n p) (sym (not_from_false (p n) e)) ∙ h)) (cases_Bool (p n))

-- a choice of a setting is below its size
choice_below : (s : Setting) (c : ℕ) → domain s c ≡ true → c < s.size
choice_below s c h = ltb-true c s.size h

module _ (S : List Setting) (T : Sets) (x : ℕ) where
  pub filled_if : empty S T x ≡ false → Filled (T x)
  filled_if h = some_is (setting S x).size (T x) h

  -- an empty set has no choice of its setting
  pub empty_lacks : empty S T x ≡ true → (c : ℕ) → domain (setting S x) c ≡ true → T x c ≡ true → ⊥
  empty_lacks h c d k = none_is (setting S x).size (T x) h c (choice_below (setting S x) c d) k

  pub not_empty : (c : ℕ) → domain (setting S x) c ≡ true → T x c ≡ true → empty S T x ≡ false
  not_empty c d k = ⊎_elim (λ h. absurd (empty_lacks h c d k)) (λ h. h) (cases_Bool (empty S T x))

-- ---- narrowing

allowed : (a : Atom) (s : Bool) (c : ℕ) → covers a c ≡ s → allows a s c ≡ true
allowed a true c h = h
allowed a false c h = not_from_false (covers a c) h

allowed_is : (a : Atom) (s : Bool) (c : ℕ) → allows a s c ≡ true → covers a c ≡ s
allowed_is a true c h = h
allowed_is a false c h = not-true (covers a c) h

module _ (a : Atom) (s : Bool) (T : Sets) where
  -- the set of another setting is as it was
  pub narrowed_other : (x : ℕ) → (x ≡ named a → ⊥) → narrowed a s T x ≡ T x
  narrowed_other x ne = cond-false (x == named a) _ _ (ne_eqb x (named a) ne)

  -- a member afterwards was one before
  pub narrowed_within : (x c : ℕ) → narrowed a s T x c ≡ true → T x c ≡ true
  narrowed_within x c =
      cond_both (x == named a) (λ d. T x d && allows a s d) (T x) (λ (p : ℕ → Bool). p c ≡ true → T x c ≡ true)
      (λ _ h. (and_parts (T x c) _ h).0) (λ _ h. h)

  narrowed_here : (c : ℕ) → narrowed a s T (named a) c ≡ (T (named a) c && allows a s c)
  narrowed_here c = ap (λ (p : ℕ → Bool). p c) (cond-true (named a == named a) (λ d. T (named a) d && allows a s d) (T (named a)) (eq-eqb (named a) (named a) refl))

  module _ (S : List Setting) (σ : Assignment) where
    -- a pick that the atom allows stays one
    pub picks_narrowed : Picks S T σ → covers a (σ (named a)) ≡ s → Picks S (narrowed a s T) σ
    picks_narrowed h k x l =
        cond_both (x == named a) (λ d. T x d && allows a s d) (T x) (λ (p : ℕ → Bool). p (σ x) ≡ true)
        (λ e. and_from _ _ (h x l) (ap (λ y. allows a s (σ y)) (eqb-true x (named a) e) ∙ allowed a s _ k)) (λ _. h x l)

    pub picks_before : Picks S (narrowed a s T) σ → Picks S T σ
    picks_before h x l = narrowed_within x (σ x) (h x l)

    pub picks_allowed : named a < length S → Picks S (narrowed a s T) σ → covers a (σ (named a)) ≡ s
    picks_allowed l h = allowed_is a s _ (and_parts _ _ (sym (narrowed_here (σ (named a))) ∙ h (named a) l)).1
