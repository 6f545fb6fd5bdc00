-- The bits of a `u64` that `&`, `!`, `<<` and `trailing_zeros` give: std's lemmas, at 64 bits.
use Rattle.std.proofs.Common.{◌≡◌, ℕ, ◌-◌, ◌*◌, ◌%◌, ◌^◌, ◌<◌, cond, ltb, w64, ap, ◌∙◌, arith}
use Rattle.std.specs.Int.{bit_at, trailing_zeros}
use Rattle.std.proofs.lemmas.Bool.Decides.{nat_tests}
use Rattle.std.proofs.lemmas.Nat.Bits.{bit_at-zero, bit_at-lt, bit_at_and, bit_at_not, bit_at-trailing_zeros, ones_shl, bit_at_mask_inside, bit_at_mask_below}

pub not_64 : (n i : ℕ) → n < 2 ^ 64 → i < 64 → bit_at (2 ^ 64 - 1 - n) i ≡ 1 - bit_at n i
not_64 = bit_at_not w64

-- `u64::MAX << k`
pub ones_shl_64 : (k i : ℕ) → k < 64 → i < 64 → bit_at ((2 ^ 64 - 1) * 2 ^ k % 2 ^ 64) i ≡ cond (ltb i k) 0 1
ones_shl_64 k i h l = ap (λ n. bit_at n i) (ones_shl 64 k (omega arith)) ∙ grind (arith, nat_tests, bit_at_mask_inside k 64 i, bit_at_mask_below k 64 i)

pub zeros_64 : (n : ℕ) → 0 < n → n < 2 ^ 64 → (trailing_zeros w64 n < 64) × (bit_at n (trailing_zeros w64 n) ≡ 1) × ((i : ℕ) → i < trailing_zeros w64 n → bit_at n i ≡ 0)
zeros_64 = bit_at-trailing_zeros w64

pub ruleset bits_64 = (nat_tests, bit_at-zero, bit_at-lt, bit_at_and, not_64, ones_shl_64, zeros_64)
