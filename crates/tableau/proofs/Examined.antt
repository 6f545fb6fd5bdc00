-- The examination accepts exactly the closed tableaux, and counts their commands.
use Rattle.std.proofs.Common.{◌≡◌, ℕ, zero, suc, ◌+◌, ◌<◌, ◌≤◌, true, false, ◌==◌, List, [], ◌∷◌, ◌++◌, length, slice_index, drop, Some, None, Option, sym, refl, ap, ◌∙◌, subst, ⊎_elim, append_assoc, append-nil, arith}
use Rattle.std.proofs.lemmas.List.{length-drop, get_or-drop, get_or_past}
use Rattle.std.proofs.lemmas.Bool.{false≢true, eqb-true, leb-false, lt-leb, le-ltb, cases_lt, cond_both, and_parts, and_from, not-false, not_from_true, ltb-false, cond-false}
use Rattle.plfd.specs.declared.settings.Setting.{Setting}
use Rattle.plfd.specs.Answers.{Answer, given, refused, and_then, unless}
use Rattle.plfd.specs.Code.{two_bytes}
use Rattle.plfd.specs.Reading.{pair}
use Rattle.plfd.specs.Exact.{Bytes}
use Rattle.plfd.specs.Formula.{constant}
use Rattle.plfd.proofs.Checks.{given≢refused, NoneHolds, unless_none, passed_checks}
use Rattle.plfd.proofs.Spelling.{whole_pair, high_byte, low_byte}
use Rattle.tableau.specs.declared.commands.Move.{Move}
use Rattle.tableau.specs.declared.commands.Move.TheVariants.{Append, Split, Narrow, Clash}
use Rattle.tableau.specs.declared.commands.Command.{Command}
use Rattle.tableau.specs.declared.commands.Command.TheVariants.{Expand, Empty}
use Rattle.tableau.specs.Asks.{◌is◌, Asks, nothing, clash, narrow, append, split, asks}
use Rattle.tableau.specs.Branches.{Branch, start, asked, grown, expand, empty}
use Rattle.tableau.specs.Tape.{move_byte, spelled, due, takes}
use Rattle.tableau.specs.Tableau.{Closes, by_clash, by_empty, by_append, by_narrow, by_split, command_count}
use Rattle.tableau.specs.Examination.{command_of, operands, operand_checks, if_whole, obeyed, all_fit, command_checks, examining}
use Rattle.tableau.specs.Laws.{ExaminationIsExact}

same_given : {A : Type 0} {a b : A} → given a ≡ given b → a ≡ b
same_given e = cc

-- ---- commands and their bytes

command_moves : (m : Move) (bs : List ℕ) → command_of (move_byte m) bs ≡ Some (Expand m (pair bs 0))
command_moves Append bs = refl
command_moves Split bs = refl
command_moves Narrow bs = refl
command_moves Clash bs = refl

same_move : (d m : Move) → move_byte d ≡ move_byte m → d ≡ m
same_move d m e = let h = sym (command_moves d []) ∙ ap (λ byte. command_of byte []) e ∙ command_moves m [] in cc

-- an entry that takes a move is due that move
due_taken : (a : Asks) (m : Move) → takes a m ≡ true → due a ≡ Some m
due_taken a m h = go (due a) h
  where
    go : (o : Option Move) → elim o [ None ↦ false | Some d ↦ move_byte d == move_byte m ] ≡ true → o ≡ Some m
    go None h = absurd (false≢true h)
    go (Some d) h = ap Some (same_move d m (eqb-true _ _ h))

-- what a command byte and the bytes behind it say
abbrev Spells : ℕ → List ℕ → Option Command → Type 0
Spells byte bs None = Unit {0}
Spells byte bs (Some (Expand m k)) = (byte ≡ move_byte m) × (k ≡ pair bs 0)
Spells byte bs (Some (Empty x)) = (byte ≡ 0x24) × (x ≡ slice_index bs 0)

spells : (byte : ℕ) (bs : List ℕ) → Spells byte bs (command_of byte bs)
spells byte bs =
    cond_both (byte == 0x20) _ _ (Spells byte bs) (λ e. (eqb-true _ _ e, refl))
    (λ _. cond_both (byte == 0x21) _ _ (Spells byte bs) (λ e. (eqb-true _ _ e, refl))
    (λ _. cond_both (byte == 0x22) _ _ (Spells byte bs) (λ e. (eqb-true _ _ e, refl))
    (λ _. cond_both (byte == 0x23) _ _ (Spells byte bs) (λ e. (eqb-true _ _ e, refl))
    (λ _. cond_both (byte == 0x24) _ _ (Spells byte bs) (λ e. (eqb-true _ _ e, refl)) (λ _. tt)))))

spelled_by : (byte : ℕ) (bs : List ℕ) (m : Command) → Spells byte bs (Some m) → operands m ≤ length bs → Bytes bs → byte ∷ bs ≡ spelled m ++ drop (operands m) bs
spelled_by byte [] (Expand m k) s l B = absurd (omega arith)
spelled_by byte (h ∷ []) (Expand m k) s l B = absurd (omega arith)
spelled_by byte (h ∷ low ∷ bs) (Expand m k) s l B =
    let small : low < 256 = B 1 in
    let high_is = high_byte h low small ∙ ap (λ n. slice_index (two_bytes n) 0) (sym s.1) in
    let low_is = low_byte h low small ∙ ap (λ n. slice_index (two_bytes n) 1) (sym s.1) in
    λ i. s.0 i ∷ high_is i ∷ low_is i ∷ bs
spelled_by byte [] (Empty x) s l B = absurd (omega arith)
spelled_by byte (y ∷ bs) (Empty x) s l B = λ i. s.0 i ∷ sym s.1 i ∷ bs

module _ (S : List Setting) where
  -- operands are passed over
  past : (done at k : ℕ) (t : List ℕ) (bs : List Branch) → k ≤ length t → examining S done at k t bs ≡ examining S done (at + k) 0 (drop k t) bs
  past done at zero t bs l = let e : at ≡ at + 0 = omega arith in ap (λ a. examining S done a 0 t bs) e
  past done at (suc k) [] bs l = absurd (omega arith)
  past done at (suc k) (byte ∷ t) bs l =
      let e : suc at + k ≡ at + suc k = omega arith in
      past done (suc at) k t bs (omega arith) ∙ ap (λ a. examining S done a 0 (drop k t) bs) e

  -- ---- a closed tableau is accepted

  there : (b : Branch) (k : ℕ) (m : Move) → takes (asked b k) m ≡ true → k < length b.entries
  there b k m h =
      ⊎_elim (λ l. l)
      (λ l. absurd (false≢true (ap (λ e. takes (asks e) m) (sym (get_or_past b.entries k (constant true is true) l)) ∙ h)))
      (cases_lt k (length b.entries))

  obeys : (b : Branch) (bs : List Branch) (m : Move) (k : ℕ) (a : Asks) → asked b k ≡ a → takes a m ≡ true → all_fit (expand a b) ≡ true → (done at : ℕ) (v : List ℕ) → examining S done at 0 (spelled (Expand m k) ++ v) (b ∷ bs) ≡ examining S (done + 1) (suc (suc (suc at))) 0 v (expand a b ++ bs)
  obeys b bs m k a e fit_move fit done at v =
      let t = two_bytes k ++ v in
      let next : Command → Answer ℕ = λ c. unless (command_checks S b at c) (examining S (done + 1) (suc at) (operands c) t (obeyed b c ++ bs)) in
      let taken = ap (λ x. takes x m) e ∙ fit_move in
      let long = le-ltb (length t) 2 (omega arith) in
      ap (λ o. and_then (if_whole at t o) next) (command_moves m t ∙ ap (λ j. Some (Expand m j)) (whole_pair k))
      ∙ ap (λ r. and_then r next) (cond-false _ _ _ long)
      ∙ unless_none (command_checks S b at (Expand m k)) (
        lt-leb _ _ (there b k m taken),
        (not_from_true _ taken, (refl, (not_from_true _ (ap (λ x. all_fit (expand x b)) e ∙ fit), tt))),
      )
      ∙ ap (λ x. examining S (done + 1) (suc (suc (suc at))) 0 v (expand x b ++ bs)) e

  obeys_empty : (b : Branch) (bs : List Branch) (x : ℕ) → x < length S → empty S b.sets x ≡ true → (done at : ℕ) (v : List ℕ) → examining S done at 0 (spelled (Empty x) ++ v) (b ∷ bs) ≡ examining S (done + 1) (suc (suc at)) 0 v bs
  obeys_empty b bs x l e done at v =
      let next : Command → Answer ℕ = λ c. unless (command_checks S b at c) (examining S (done + 1) (suc at) (operands c) (x ∷ v) (obeyed b c ++ bs)) in
      let long = le-ltb (length (x ∷ v)) 1 (omega arith) in
      ap (λ r. and_then r next) (cond-false _ _ _ long)
      ∙ unless_none (command_checks S b at (Empty x)) (lt-leb _ _ l, (refl, (not_from_true _ e, (refl, tt))))

  -- whatever the offset, the examination goes on behind the tableau with as many commands more
  accepts : {b : Branch} {t : List ℕ} (c : Closes S b t) (bs : List Branch) (v : List ℕ) (done n : ℕ) → ((at : ℕ) → examining S (done + command_count c) at 0 v bs ≡ given n) → (at : ℕ) → examining S done at 0 (t ++ v) (b ∷ bs) ≡ given n
  accepts (by_clash {b = b} k e) bs v done n h at = obeys b bs Clash k clash e refl refl done at v ∙ h _
  accepts (by_empty {b = b} x l e) bs v done n h at = obeys_empty b bs x l e done at v ∙ h _
  accepts (by_append {b = b} k es {t = t} e f c) bs v done n h at =
      let count : done + 1 + command_count c ≡ done + (1 + command_count c) = omega arith in
      obeys b bs Append k (append es) e refl (and_from _ _ f refl) done at (t ++ v)
      ∙ accepts c bs v (done + 1) n (λ i. ap (λ d. examining S d i 0 v bs) count ∙ h i) _
  accepts (by_narrow {b = b} k a s {t = t} e f c) bs v done n h at =
      let count : done + 1 + command_count c ≡ done + (1 + command_count c) = omega arith in
      obeys b bs Narrow k (narrow a s) e refl (and_from _ _ f refl) done at (t ++ v)
      ∙ accepts c bs v (done + 1) n (λ i. ap (λ d. examining S d i 0 v bs) count ∙ h i) _
  accepts (by_split {b = b} k l r {t = t} {u = u} e f g c d) bs v done n h at =
      let count : done + 1 + command_count c + command_count d ≡ done + (1 + (command_count c + command_count d)) = omega arith in
      obeys b bs Split k (split l r) e refl (and_from _ _ f (and_from _ _ g refl)) done at ((t ++ u) ++ v)
      ∙ ap (λ w. examining S (done + 1) (suc (suc (suc at))) 0 w (grown l b ∷ grown r b ∷ bs)) (append_assoc t u v)
      ∙ accepts c (grown r b ∷ bs) (u ++ v) (done + 1) n (accepts d bs v (done + 1 + command_count c) n (λ i. ap (λ x. examining S x i 0 v bs) count ∙ h i)) _

  -- ---- what is accepted is a closed tableau

  -- the bytes close the branches, one after the other, by n commands
  abbrev CloseEach : List Branch → List ℕ → ℕ → Type 0
  CloseEach [] t n = (t ≡ []) × (n ≡ 0)
  CloseEach (b ∷ bs) t n = (u : List ℕ) × (v : List ℕ) × (m : ℕ) × (c : Closes S b u) × CloseEach bs v m × (t ≡ u ++ v) × (n ≡ command_count c + m)

  module _ (b : Branch) (bs : List Branch) (v : List ℕ) (n : ℕ) where
    by_move : (k : ℕ) (a : Asks) → asked b k ≡ a → (m : Move) → due a ≡ Some m → all_fit (expand a b) ≡ true → CloseEach (expand a b ++ bs) v n → CloseEach (b ∷ bs) (spelled (Expand m k) ++ v) (1 + n)
    by_move k nothing e m d f c = absurd (false≢true cc)
    by_move k clash e m d f c =
        let same : Clash ≡ m = cc in
        subst (λ x. CloseEach (b ∷ bs) (spelled (Expand x k) ++ v) (1 + n)) same (spelled (Expand Clash k), v, n, by_clash k e, c, refl, refl)
    by_move k (narrow a s) e m d f c =
        let same : Narrow ≡ m = cc in
        subst (λ x. CloseEach (b ∷ bs) (spelled (Expand x k) ++ v) (1 + n)) same
        (spelled (Expand Narrow k) ++ c.0, c.1, c.2, by_narrow k a s e (and_parts _ _ f).0 c.3, c.4, ap (λ w. spelled (Expand Narrow k) ++ w) c.5, omega (arith, c.6))
    by_move k (append es) e m d f c =
        let same : Append ≡ m = cc in
        subst (λ x. CloseEach (b ∷ bs) (spelled (Expand x k) ++ v) (1 + n)) same
        (spelled (Expand Append k) ++ c.0, c.1, c.2, by_append k es e (and_parts _ _ f).0 c.3, c.4, ap (λ w. spelled (Expand Append k) ++ w) c.5, omega (arith, c.6))
    by_move k (split l r) e m d f c =
        let same : Split ≡ m = cc in
        let g = and_parts _ _ f in
        let x = c.4 in
        subst (λ x. CloseEach (b ∷ bs) (spelled (Expand x k) ++ v) (1 + n)) same (
          spelled (Expand Split k) ++ (c.0 ++ x.0),
          x.1,
          x.2,
          by_split k l r e g.0 (and_parts _ _ g.1).0 c.3 x.3,
          x.4,
          ap (λ w. spelled (Expand Split k) ++ w) (c.5 ∙ ap (λ w. c.0 ++ w) x.5 ∙ sym (append_assoc c.0 x.0 x.1)),
          omega (arith, c.6, x.6),
        )

    closes_by : (at : ℕ) (m : Command) → NoneHolds (command_checks S b at m) → CloseEach (obeyed b m ++ bs) v n → CloseEach (b ∷ bs) (spelled m ++ v) (1 + n)
    closes_by at (Expand m k) h c = by_move k (asked b k) refl m (due_taken (asked b k) m (not-false _ h.1.0)) (not-false _ h.1.1.1.0) c
    closes_by at (Empty x) h c = (spelled (Empty x), v, n, by_empty x (leb-false _ _ h.0) (not-false _ h.1.1.0), c, refl, refl)

  -- accepted after `done` commands, with k in all
  abbrev Read : List ℕ → List Branch → ℕ → ℕ → Type 0
  Read t bs done k = (n : ℕ) × CloseEach bs t n × (done + n ≡ k)

  abbrev Sound : ℕ → Type 0
  Sound fuel = (t : List ℕ) (bs : List Branch) (done at k : ℕ) → length t ≤ fuel → Bytes t → examining S done at 0 t bs ≡ given k → Read t bs done k

  module _ (fuel : ℕ) (shorter : Sound fuel) (byte : ℕ) (t : List ℕ) (long : length t ≤ fuel) (B : Bytes (byte ∷ t)) (b : Branch) (bs : List Branch) (done at k : ℕ) where
    abbrev after_command : Command → Answer ℕ
    after_command m = unless (command_checks S b at m) (examining S (done + 1) (suc at) (operands m) t (obeyed b m ++ bs))

    read_command : (o : Option Command) → Spells byte t o → and_then (if_whole at t o) after_command ≡ given k → Read (byte ∷ t) (b ∷ bs) done k
    read_command None s e = absurd (given≢refused (sym e))
    read_command (Some m) s e = whole (if_whole at t (Some m)) refl e
      where
        go : operands m ≤ length t → after_command m ≡ given k → Read (byte ∷ t) (b ∷ bs) done k
        go l e =
            let p = passed_checks (command_checks S b at m) e in
            let rest = drop (operands m) t in
            let r = shorter rest (obeyed b m ++ bs) (done + 1) (suc at + operands m) k (omega (arith, length-drop (operands m) t))
            (λ i. rw (get_or-drop (operands m) t i 0) (B (suc (operands m + i)))) (sym (past (done + 1) (suc at) (operands m) t (obeyed b m ++ bs) l) ∙ p.1) in
            (1 + r.0, subst (λ w. CloseEach (b ∷ bs) w (1 + r.0)) (sym (spelled_by byte t m s l (λ i. B (suc i)))) (closes_by b bs rest r.0 at m p.0 r.1), omega (arith, r.2))

        whole : (r : Answer Command) → if_whole at t (Some m) ≡ r → and_then r after_command ≡ given k → Read (byte ∷ t) (b ∷ bs) done k
        whole (refused w) kept e = absurd (given≢refused (sym e))
        whole (given c) kept e =
            let p = passed_checks (operand_checks at t m) kept in
            go (ltb-false _ _ p.0.0) (ap after_command (same_given p.1) ∙ e)

  sound : (fuel : ℕ) → Sound fuel
  sound fuel [] [] done at k l B e = (0, (refl, refl), omega (arith, same_given e))
  sound fuel [] (b ∷ bs) done at k l B e = absurd (given≢refused (sym e))
  sound fuel (byte ∷ t) [] done at k l B e = absurd (given≢refused (sym e))
  sound zero (byte ∷ t) (b ∷ bs) done at k l B e = absurd (omega arith)
  sound (suc fuel) (byte ∷ t) (b ∷ bs) done at k l B e =
      read_command fuel (sound fuel) byte t (omega arith) B b bs done at k (command_of byte t) (spells byte t) e

  moved : {b : Branch} {t u : List ℕ} → t ≡ u → (c : Closes S b u) → (d : Closes S b t) × (command_count d ≡ command_count c)
  moved {b} e c = subst (λ t. (d : Closes S b t) × (command_count d ≡ command_count c)) (sym e) (c, refl)

pub examination_is_exact : ExaminationIsExact
examination_is_exact S rules t k B = (
  (λ e.
      let r = sound S (length t) t (start S rules ∷ []) 0 0 k (omega arith) B e in
      let c = r.1 in
      let d = moved S (c.5 ∙ ap (λ v. c.0 ++ v) c.4.0 ∙ append-nil c.0) c.3 in
      (d.0, omega (arith, d.1, c.6, c.4.1, r.2))),
  (λ c.
      ap (λ u. examining S 0 0 0 u (start S rules ∷ [])) (sym (append-nil t))
      ∙ accepts S c.0 [] [] 0 k (λ at. ap given (omega (arith, c.1))) 0),
)
