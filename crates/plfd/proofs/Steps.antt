-- One command of a code: how its reading goes on, or why it is refused.
use Rattle.std.proofs.Common.{◌≡◌, ℕ, zero, suc, ◌+◌, ◌<◌, ◌≤◌, List, [], ◌∷◌, length, drop, refl, ap, ◌∙◌, arith}
use Rattle.std.proofs.lemmas.List.{drop-drop}
use Rattle.plfd.specs.declared.settings.Setting.{Setting}
use Rattle.plfd.specs.declared.nodes.Node.{Node}
use Rattle.plfd.specs.Answers.{given, refused, Reason, and_then, unless}
use Rattle.plfd.specs.Formula.{Formula}
use Rattle.plfd.specs.Code.{width, operands, raise}
use Rattle.plfd.specs.Reading.{commanded, stack_checks, reading}

module _ (S : List Setting) where
  -- the operands are passed over
  past : (u : ℕ) (s : List Formula) (at k : ℕ) (bs : List ℕ) → k ≤ length bs → reading S u s at k bs ≡ reading S u s (at + k) 0 (drop k bs)
  past u s at zero bs h = let e : at ≡ at + 0 = omega arith in ap (λ a. reading S u s a 0 bs) e
  past u s at (suc k) [] h = absurd (omega arith)
  past u s at (suc k) (b ∷ bs) h =
      let e : suc at + k ≡ at + suc k = omega arith in
      past u s (suc at) k bs (omega arith) ∙ ap (λ a. reading S u s a 0 (drop k bs)) e

  after_command : (u : ℕ) (s : List Formula) (at : ℕ) (bs : List ℕ) → 0 < length bs → reading S u s at 0 bs ≡ and_then (commanded S at bs) (λ n. unless (stack_checks (length s) u at n) (reading S (u + 1) (raise s n) (suc at) (operands n) (drop 1 bs)))
  after_command u s at [] h = absurd (omega arith)
  after_command u s at (b ∷ bs) h = refl

  operands_within : (bs : List ℕ) (n : Node) → width n ≤ length bs → operands n ≤ length (drop 1 bs)
  operands_within [] n h = absurd (omega arith)
  operands_within (b ∷ bs) n h = omega arith

  drop-width : (bs : List ℕ) (n : Node) → drop (operands n) (drop 1 bs) ≡ drop (width n) bs
  drop-width bs n = let e : 1 + operands n ≡ width n = omega arith in drop-drop (operands n) 1 bs ∙ ap (λ k. drop k bs) e

  pub next_command : (u : ℕ) (s : List Formula) (at : ℕ) (bs : List ℕ) (n : Node) → commanded S at bs ≡ given n → width n ≤ length bs → reading S u s at 0 bs ≡ unless (stack_checks (length s) u at n) (reading S (u + 1) (raise s n) (at + width n) 0 (drop (width n) bs))
  next_command u s at bs n is long =
      let e : suc at + operands n ≡ at + width n = omega arith in
      after_command u s at bs (omega arith)
      ∙ ap (λ r. and_then r (λ m. unless (stack_checks (length s) u at m) (reading S (u + 1) (raise s m) (suc at) (operands m) (drop 1 bs)))) is
      ∙ ap (unless (stack_checks (length s) u at n)) (past (u + 1) (raise s n) (suc at) (operands n) (drop 1 bs) (operands_within bs n long) ∙ (λ i. reading S (u + 1) (raise s n) (e i) 0 (drop-width bs n i)))

  pub refused_command : (u : ℕ) (s : List Formula) (at : ℕ) (bs : List ℕ) (w : Reason) → 0 < length bs → commanded S at bs ≡ refused w → reading S u s at 0 bs ≡ refused w
  refused_command u s at bs w some is = after_command u s at bs some ∙ ap (λ r. and_then r (λ m. unless (stack_checks (length s) u at m) (reading S (u + 1) (raise s m) (suc at) (operands m) (drop 1 bs)))) is
