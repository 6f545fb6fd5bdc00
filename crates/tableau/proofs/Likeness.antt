-- A walk depends on no setting that the rules do not name.
use Rattle.std.proofs.Common.{◌≡◌, ℕ, zero, suc, Bool, true, false, if◌then◌else◌, ◌&&◌, ◌==◌, nat_lt, List, [], ◌∷◌, ◌++◌, map, length, slice_index_or, sym, refl, ap, ◌∙◌, subst}
use mathlib.Core.Path.{fun_ext}
use Rattle.std.proofs.lemmas.Bool.{true≢false, false≢true}
use Rattle.plfd.specs.declared.settings.Setting.{Setting}
use Rattle.plfd.specs.declared.nodes.Atom.{Atom}
use Rattle.plfd.specs.Settings.{domain, setting}
use Rattle.plfd.specs.Formula.{Formula, constant, named}
use Rattle.plfd.specs.Code.{code}
use Rattle.plfd.proofs.Unique.{same_formula}
use Rattle.tableau.specs.declared.commands.Command.{Command}
use Rattle.tableau.specs.Asks.{Entry, ◌is◌, asks, Asks, nothing, clash, narrow, append, split}
use Rattle.tableau.specs.Branches.{Sets, Branch, start, asked, allows, narrowed, none_below, grown, empty}
use Rattle.tableau.specs.Tape.{tape}
use Rattle.tableau.specs.Walk.{Position, ◌at◌, Step, step, turn, Outcome, found, none, spent, after, walk_on, walk, is_none, is_spent, steps, tape_of, sets_of}
use Rattle.tableau.specs.Pages.{named_by}
use Rattle.tableau.specs.Laws.{Alike, SameRulesWalkAlike}
use Rattle.tableau.proofs.Every.{every_append}
use Rattle.tableau.proofs.Entries.{Over, OverAll, OverAsks, over_asked, over_rules}

cond_twin : {A : Type 0} (P : A → A → Type 0) (b b' : Bool) (x y x' y' : A) → b ≡ b' → P x x' → P y y' → P (if b then x else y) (if b' then x' else y')
cond_twin P true true x y x' y' e h k = h
cond_twin P true false x y x' y' e h k = absurd (true≢false e)
cond_twin P false true x y x' y' e h k = absurd (false≢true e)
cond_twin P false false x y x' y' e h k = k

-- what a step before does to each part of an outcome
after_none : (ms : List Command) (o : Outcome) → is_none (after ms o) ≡ is_none o
after_none ms (found T k) = refl
after_none ms (none t k) = refl
after_none ms (spent k) = refl

after_spent : (ms : List Command) (o : Outcome) → is_spent (after ms o) ≡ is_spent o
after_spent ms (found T k) = refl
after_spent ms (none t k) = refl
after_spent ms (spent k) = refl

after_steps : (ms : List Command) (o : Outcome) → steps (after ms o) ≡ suc (steps o)
after_steps ms (found T k) = refl
after_steps ms (none t k) = refl
after_steps ms (spent k) = refl

after_tape : (ms : List Command) (o : Outcome) → tape_of (after ms o) ≡ (if is_none o then tape ms ++ tape_of o else [])
after_tape ms (found T k) = refl
after_tape ms (none t k) = refl
after_tape ms (spent k) = refl

after_sets : (ms : List Command) (o : Outcome) → sets_of (after ms o) ≡ sets_of o
after_sets ms (found T k) = refl
after_sets ms (none t k) = refl
after_sets ms (spent k) = refl

-- settings that are named, and that were declared alike on both pages
module _ (S S' : List Setting) (named_here : ℕ → Bool) (same : (x : ℕ) → named_here x ≡ true → setting S x ≡ setting S' x) where
  abbrev Named : ℕ → Type 0
  Named x = named_here x ≡ true

  abbrev Agree : Sets → Sets → Type 0
  Agree T T' = (x : ℕ) → Named x → (v : ℕ) → T x v ≡ T' x v

  -- two branches with the same entries over such settings, and sets of them that agree
  pub record Twin (b b' : Branch) : Type 0 where
    pub entries_same : b.entries ≡ b'.entries
    pub over : OverAll Named b.entries
    pub agree : Agree b.sets b'.sets

  pub data Twins : List Position → List Position → Type 0 where
    none_left : Twins [] []
    one_more : {ps ps' : List Position} (b b' : Branch) (c : ℕ) → Twin b b' → Twins ps ps' → Twins (b at c ∷ ps) (b' at c ∷ ps')

  twins-append : {ps ps' qs qs' : List Position} → Twins ps ps' → Twins qs qs' → Twins (ps ++ qs) (ps' ++ qs')
  twins-append none_left k = k
  twins-append (one_more b b' c t h) k = one_more b b' c t (twins-append h k)

  agree_narrowed : (a : Atom) (s : Bool) (T T' : Sets) → Agree T T' → Agree (narrowed a s T) (narrowed a s T')
  agree_narrowed a s T T' h x n v =
      cond_twin (λ (p q : ℕ → Bool). p v ≡ q v) (x == named a) (x == named a) _ _ _ _ refl (ap (λ b. b && allows a s v) (h x n v)) (h x n v)

  agree_empty : (T T' : Sets) (x : ℕ) → Named x → Agree T T' → empty S T x ≡ empty S' T' x
  agree_empty T T' x n h = ap (λ (s : Setting). none_below s.size (T x)) (same x n) ∙ ap (none_below (setting S' x).size) (fun_ext (h x n))

  abbrev TwinSteps : Step → Step → Type 0
  TwinSteps s s' = (s.commands ≡ s'.commands) × Twins s.next s'.next

  module _ (b b' : Branch) (c : ℕ) (t : Twin b b') where
    grown_twin : (es : List Entry) → OverAll Named es → Twin (grown es b) (grown es b')
    grown_twin es o = record { entries_same = ap (λ l. l ++ es) t.entries_same; over = every_append (Over Named) b.entries es t.over o; agree = t.agree }

    step_twins : (a : Asks) → OverAsks Named a → TwinSteps (step S b c a) (step S' b' c a)
    step_twins nothing o = (refl, one_more b b' (suc c) t none_left)
    step_twins clash o = (refl, none_left)
    step_twins (narrow a s) o =
        let k = agree_narrowed a s b.sets b'.sets t.agree in
        cond_twin TwinSteps (empty S (narrowed a s b.sets) (named a)) (empty S' (narrowed a s b'.sets) (named a)) _ _ _ _
        (agree_empty (narrowed a s b.sets) (narrowed a s b'.sets) (named a) o k)
        (refl, none_left)
        (refl, one_more _ _ (suc c) (record { entries_same = t.entries_same; over = t.over; agree = k }) none_left)
    step_twins (append es) o = (refl, one_more _ _ (suc c) (grown_twin es o) none_left)
    step_twins (split l r) o = (refl, one_more _ _ (suc c) (grown_twin l o.0) (one_more _ _ (suc c) (grown_twin r o.1) none_left))

    turn_twins : (ps ps' : List Position) → Twins ps ps' → TwinSteps (turn S b c ps) (turn S' b' c ps')
    turn_twins ps ps' h =
        let asks_same : asked b c ≡ asked b' c = ap (λ es. asks (slice_index_or es c (constant true is true))) t.entries_same in
        let s = subst (λ a. TwinSteps (step S b c (asked b c)) (step S' b' c a)) asks_same (step_twins (asked b c) (over_asked Named b c t.over)) in
        (s.0, twins-append s.1 h)

    under : nat_lt c (length b.entries) ≡ nat_lt c (length b'.entries)
    under = ap (λ es. nat_lt c (length es)) t.entries_same

    found_alike : Alike named_here (found b.sets 0) (found b'.sets 0)
    found_alike = record { same_none = refl; same_spent = refl; same_steps = refl; same_tape = refl; same_sets = t.agree }

  -- ---- outcomes

  same_outcome : (o : Outcome) → Alike named_here o o
  same_outcome o = record { same_none = refl; same_spent = refl; same_steps = refl; same_tape = refl; same_sets = λ x n v. refl }

  alike_after : (ms ms' : List Command) (o o' : Outcome) → ms ≡ ms' → Alike named_here o o' → Alike named_here (after ms o) (after ms' o')
  alike_after ms ms' o o' e h = record {
    same_none = after_none ms o ∙ h.same_none ∙ sym (after_none ms' o');
    same_spent = after_spent ms o ∙ h.same_spent ∙ sym (after_spent ms' o');
    same_steps = after_steps ms o ∙ ap suc h.same_steps ∙ sym (after_steps ms' o');
    same_tape = after_tape ms o ∙ (λ i. if h.same_none i then tape (e i) ++ h.same_tape i else []) ∙ sym (after_tape ms' o');
    same_sets = λ x n v. ap (λ (T : Sets). T x v) (after_sets ms o) ∙ h.same_sets x n v ∙ sym (ap (λ (T : Sets). T x v) (after_sets ms' o'));
  }

  alike : (n : ℕ) {ps ps' : List Position} → Twins ps ps' → Alike named_here (walk_on S n ps) (walk_on S' n ps')
  alike n none_left = same_outcome (none [] 0)
  alike zero (one_more b b' c t h) = cond_twin (Alike named_here) _ _ _ _ _ _ (under b b' c t) (same_outcome (spent 0)) (found_alike b b' c t)
  alike (suc n) (one_more {ps = ps} {ps' = ps'} b b' c t h) =
      let g = turn_twins b b' c t ps ps' h in
      cond_twin (Alike named_here) _ _ _ _ _ _ (under b b' c t)
      (alike_after (turn S b c ps).commands (turn S' b' c ps').commands (walk_on S n (turn S b c ps).next) (walk_on S' n (turn S' b' c ps').next) g.0 (alike n g.1))
      (found_alike b b' c t)

-- ---- the law

same_rules : (rules rules' : List Formula) → map code rules ≡ map code rules' → rules ≡ rules'
same_rules [] [] e = refl
same_rules [] (f ∷ fs) e = absurd (false≢true cc)
same_rules (f ∷ fs) [] e = absurd (false≢true cc)
same_rules (f ∷ fs) (g ∷ gs) e =
    let first : code f ≡ code g = cc in
    let rest : map code fs ≡ map code gs = cc in
    let same = same_formula f g first in
    let more = same_rules fs gs rest in
    λ i. same i ∷ more i

pub same_rules_walk_alike : SameRulesWalkAlike
same_rules_walk_alike S S' rules rules' n page =
    let named_here = named_by rules in
    let start_twin : Twin S S' named_here page.declared (start S rules) (start S' rules) =
    record { entries_same = refl; over = over_rules (λ x. named_here x ≡ true) rules (λ x e. e); agree = λ x m v. ap (λ s. domain s v) (page.declared x m) } in
    subst (λ rs. Alike named_here (walk S rules n) (walk S' rs n)) (same_rules rules rules' page.codes)
    (alike S S' named_here page.declared n (one_more (start S rules) (start S' rules) 0 start_twin none_left))
