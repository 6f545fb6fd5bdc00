-- What holds of every member of a list: of two lists joined, and of the member at a place.
use Rattle.std.proofs.Common.{ℕ, zero, suc, List, [], ◌∷◌, ◌++◌, slice_index_or}

module _ {A : Type 0} (P : A → Type 0) where
  abbrev pub Every : List A → Type 0
  Every [] = Unit {0}
  Every (x ∷ xs) = P x × Every xs

  pub every_append : (xs ys : List A) → Every xs → Every ys → Every (xs ++ ys)
  every_append [] ys h k = k
  every_append (x ∷ xs) ys h k = (h.0, every_append xs ys h.1 k)

  pub every_parts : (xs ys : List A) → Every (xs ++ ys) → Every xs × Every ys
  every_parts [] ys h = (tt, h)
  every_parts (x ∷ xs) ys h = let r = every_parts xs ys h.1 in ((h.0, r.0), r.1)

  pub every_at : (xs : List A) (k : ℕ) (d : A) → P d → Every xs → P (slice_index_or xs k d)
  every_at [] k d e h = e
  every_at (x ∷ xs) zero d e h = h.0
  every_at (x ∷ xs) (suc k) d e h = every_at xs k d e h.1
