-- What a call answers: something that is given, or a refusal by its number.
use Rattle.std.specs.Prelude.{ℕ, Bool, true, false, if◌then◌else◌, List, [], ◌∷◌}

-- the reason of a refusal is a number; some name an offset or a setting besides
pub data Reason : Type 0 where
  reason : ℕ → Reason
  reason_at : ℕ → ℕ → Reason

pub data Answer (A : Type 0) : Type 0 where
  given : A → Answer A
  refused : Reason → Answer A

-- an answer without a refusal
abbrev pub accepted : {A : Type 0} → Answer A → Bool
accepted (given a) = true
accepted (refused w) = false

-- a refusal is passed on; what is given goes further
abbrev pub and_then : {A B : Type 0} → Answer A → (A → Answer B) → Answer B
and_then (given a) next = next a
and_then (refused w) next = refused w

-- a test, and the refusal where it holds
infix 70 ◌⇒◌
pub data Check : Type 0 where
  ◌⇒◌ : Bool → Reason → Check

-- the first check that holds refuses; where none holds, the answer stands
abbrev pub unless : {A : Type 0} → List Check → Answer A → Answer A
unless [] r = r
unless (b ⇒ w ∷ cs) r = if b then refused w else unless cs r
