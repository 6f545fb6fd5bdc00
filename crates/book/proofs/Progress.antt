-- A code is read as far as it goes: each command adds a node, and the end decides what was read.
use Rattle.std.proofs.Common.{◌≡◌, ℕ, ◌+◌, ◌-◌, ◌<◌, ◌≤◌, List, [], ◌∷◌, ◌++◌, length, drop, sym, ap, ◌∙◌, append_assoc, arith, length-append}
use Rattle.std.proofs.lemmas.List.{drop-drop, length-drop}
use Rattle.std.proofs.lemmas.Bool.{cond-false, le-ltb, lt-leb}
use Rattle.plfd.specs.declared.settings.Setting.{Setting}
use Rattle.plfd.specs.declared.nodes.Node.{Node}
use Rattle.plfd.specs.Answers.{given, unless}
use Rattle.plfd.specs.Formula.{Formula}
use Rattle.plfd.specs.Code.{arity, width, raise}
use Rattle.plfd.specs.Reading.{commanded, stack_checks, reading, read}
use Rattle.plfd.proofs.Spelling.{is_command}
use Rattle.plfd.proofs.Steps.{next_command}
use Rattle.plfd.proofs.Stacks.{raise_length, raise-append}
use Rattle.book.specs.declared.nodes.Placed.{Placed}
use Rattle.book.specs.Places.{made, record_of, Fitting}
use Rattle.book.specs.Growing.{Behind}
use Rattle.book.proofs.Growth.{with_node, made_more, fitting_more}

-- the code is read up to the offset `at`: its nodes stand behind ps₀, and they made so many formulas
pub record Partial (S : List Setting) (ps₀ : List Placed) (code : List ℕ) (ps : List Placed) (formulas at : ℕ) : Type 0 where
  pub s : List Formula
  pub stands : made ps ≡ s ++ made ps₀
  pub many : length s ≡ formulas
  pub fitting : Fitting S ps
  pub behind : Behind ps₀ ps
  pub within : at ≤ length code
  pub goes : read S (length ps₀) code ≡ reading S (length ps) s at 0 (drop at code)

module _ {S : List Setting} {ps₀ : List Placed} {code : List ℕ} {ps : List Placed} {formulas at : ℕ} (p : Partial S ps₀ code ps formulas at) where
  -- the checks of the next node decide how the reading goes on
  step : (n : Node) → commanded S at (drop at code) ≡ given n → read S (length ps₀) code ≡ unless (stack_checks formulas (length ps) at n) (reading S (length ps + 1) (raise p.s n) (at + width n) 0 (drop (at + width n) code))
  step n is =
      p.goes
      ∙ next_command S (length ps) p.s at (drop at code) n is (is_command S at (drop at code) n is).long
      ∙ (λ i. unless (stack_checks (p.many i) (length ps) at n) (reading S (length ps + 1) (raise p.s n) (at + width n) 0 (drop-drop (width n) at code i)))

  pub next : (n : Node) → commanded S at (drop at code) ≡ given n → arity n ≤ formulas → length ps < 1024 → Partial S ps₀ code (with_node ps n) (formulas - arity n + 1) (at + width n)
  next n is enough room =
      let command = is_command S at (drop at code) n is in
      let many = p.many in
      let long : length (with_node ps n) ≡ length ps + 1 = length-append ps (record_of ps n ∷ []) in
      record {
        s = raise p.s n;
        stands = made_more ps n ∙ ap (λ l. raise l n) p.stands ∙ raise-append p.s (made ps₀) n (omega arith);
        many = raise_length p.s n (omega arith) ∙ ap (λ m. m - arity n + 1) many;
        fitting = fitting_more ps n S command.fits p.fitting;
        behind = record { more = p.behind.more ++ record_of ps n ∷ []; is = ap (λ l. l ++ record_of ps n ∷ []) p.behind.is ∙ append_assoc ps₀ p.behind.more (record_of ps n ∷ []) };
        within = omega (arith, command.long, length-drop at code);
        goes =
            step n is ∙ cond-false _ _ _ (le-ltb formulas (arity n) enough) ∙ cond-false _ _ _ (lt-leb 1024 (length ps) room)
            ∙ ap (λ u. reading S u (raise p.s n) (at + width n) 0 (drop (at + width n) code)) (sym long);
      }

  -- the same, of values that equal these
  pub next_as : (n : Node) → commanded S at (drop at code) ≡ given n → arity n ≤ formulas → length ps < 1024 → (ps' : List Placed) (formulas' at' : ℕ) → ps' ≡ with_node ps n → formulas' ≡ formulas - arity n + 1 → at' ≡ at + width n → Partial S ps₀ code ps' formulas' at'
  next_as n is enough room ps' formulas' at' p_is f_is a_is = rw (p_is, f_is, a_is) (next n is enough room)
