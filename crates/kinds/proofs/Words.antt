-- What an array holds that `array::from_fn` made, and which choices a wide set has by its words.
use Rattle.std.proofs.Common.{◌≡◌, ℕ, zero, suc, ◌+◌, ◌*◌, ◌/◌, ◌%◌, ◌<◌, Bool, ◌&&◌, ltb, List, get_or, subst, sym, refl, ap, ◌∙◌, arith}
use Rattle.std.proofs.lemmas.Bool.Decides.{nat_tests}
use Rattle.std.specs.Fn.{Called, Mut}
use Rattle.std.specs.Array.{IsFromFnResultFrom, IsFromFnResult}
use Rattle.kinds.specs.declared.wide.Wide.{Wide}
use Rattle.kinds.specs.Sets.{most}
use Rattle.kinds.specs.Masks.{marks}
use Rattle.kinds.specs.Wides.{word, spans}

-- `array::from_fn`, at a closure f that each call leaves as it was: what holds of each answer holds of each element
module _ {F B : Type 0} (g : Mut F (ℕ × Unit {0}) B) (f : F) (P : ℕ → B → Type 0) (call : (i : ℕ) (y : B) (q : F) → Called g f (i, tt) y q → (q ≡ f) × P i y) (ys : List B) where
  made_from : (i n k j : ℕ) (p : F) (d : B) → p ≡ f → IsFromFnResultFrom g p ys i n → k < n → i + k ≡ j → P j (get_or ys j d)
  made_from i zero k j p d e h l at = absurd (omega arith)
  made_from i (suc n) zero j p d e (q, y, is, c, rest) l at =
      let here : i ≡ j = omega arith in
      let r = call i y q (subst (λ (s : F). Called g s (i, tt) y q) e c) in
      subst (λ (m : ℕ). P m (get_or ys m d)) here (subst (P i) (sym (is.1 d)) r.1)
  made_from i (suc n) (suc k) j p d e (q, y, is, c, rest) l at =
      let r = call i y q (subst (λ (s : F). Called g s (i, tt) y q) e c) in
      made_from (i + 1) n k j q d r.0 rest (omega arith) (omega arith)

  pub from_fn_each : (n : ℕ) (d : B) → IsFromFnResult g f ys n → (k : ℕ) → k < n → P k (get_or ys k d)
  from_fn_each n d h k l = made_from 0 n k k f d refl h.each l (omega arith)

-- a wide set has the choices that its words have
pub from_words : (w : Wide) (p : ℕ → Bool) → ((k : ℕ) → k < 1024 → (u : ℕ) → marks (word w k) u ≡ (p (k * 64 + u) && ltb u 64)) → (v : ℕ) → spans w v ≡ (p v && ltb v most)
from_words w p each v =
    let back : v / 64 * 64 + v % 64 ≡ v = omega arith in
    let e = λ (l : v / 64 < 1024). each (v / 64) l (v % 64) ∙ ap (λ k. p k && ltb (v % 64) 64) back in
    grind (arith, nat_tests)
