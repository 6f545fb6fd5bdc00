-- Each word is read, or the first one that cannot be makes the row none.
use Rattle.std.proofs.Common.{◌≡◌, ℕ, zero, suc, ◌<◌, List, [], ◌∷◌, length, get_or, Some, None, Option, Bor, refl, ap, ◌∙◌, arith, rules}
use Rattle.std.proofs.lemmas.Grind.{common_steps}
use Rattle.lines.specs.Operands.{before, each_of}
use Rattle.lines.specs.Words.{texts}
use Rattle.lines.proofs.operands.read_each.Goals as goal

module _ {X : Type 0} (value : List ℕ → Option X) where
  all_read : (words : List (Bor (List ℕ))) (row : List X) → length row ≡ length words → ((k : ℕ) (w : Bor (List ℕ)) (x : X) → k < length words → value (get_or words k w).now ≡ Some (get_or row k x)) → each_of value (texts words) ≡ Some row
  all_read [] [] same each = refl
  all_read [] (x ∷ row) same each = grind arith
  all_read (w ∷ words) [] same each = grind arith
  all_read (w ∷ words) (x ∷ row) same each =
      ap (λ o. before o (each_of value (texts words))) (each 0 w x (omega arith)) ∙ ap (before (Some x)) (all_read words row (omega arith) (λ k w' x' l. each (suc k) w' x' (omega arith)))

  none_read : (words : List (Bor (List ℕ))) (i : ℕ) (word : Bor (List ℕ)) → i < length words → value (get_or words i word).now ≡ None → each_of value (texts words) ≡ None
  none_read [] i word within none = grind arith
  none_read (w ∷ words) zero word within none = ap (λ o. before o (each_of value (texts words))) none
  none_read (w ∷ words) (suc i) word within none = let rest = none_read words i word (omega arith) none in grind (common_steps, arith, rest)

pub returns-clause-values : goal.returns-clause-values
returns-clause-values g c = grind (rules, all_read)

pub returns-clause-fails : goal.returns-clause-fails
returns-clause-fails g c = grind (rules, none_read)
