-- The law of reading: bytes are read as a formula exactly where they are its code, it is well formed, and its nodes fit.
use Rattle.std.specs.Prelude.{◌≡◌, ℕ, ◌+◌, ◌<◌, ◌≤◌, true, ◌↔◌, List, slice_index}
use Rattle.plfd.specs.declared.settings.Setting.{Setting}
use Rattle.plfd.specs.Answers.{given}
use Rattle.plfd.specs.Formula.{Formula, nodes, well_formed}
use Rattle.plfd.specs.Code.{code}
use Rattle.plfd.specs.Reading.{node_limit, read}

-- each number is a byte
abbrev pub Bytes : List ℕ → Type 0
Bytes bs = (k : ℕ) → slice_index bs k < 256

-- the bytes say the formula, over these settings, where `used` nodes are taken
pub record Says (S : List Setting) (used : ℕ) (bytes : List ℕ) (f : Formula) : Type 0 where
  pub written : bytes ≡ code f
  pub formed : well_formed S f ≡ true
  pub room : used + nodes f ≤ node_limit

abbrev pub ReadingIsExact : Type 0
ReadingIsExact =
    (S : List Setting) (used : ℕ) (bytes : List ℕ) (f : Formula) → used ≤ node_limit → Bytes bytes →
    (read S used bytes ≡ given f) ↔ Says S used bytes f
