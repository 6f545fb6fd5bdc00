-- Which of all choices a wide set has.
use Rattle.std.specs.Prelude.{ℕ, ◌/◌, ◌%◌, Bool, ◌&&◌, nat_lt, slice_index_or}
use Rattle.kinds.specs.declared.mask.Mask.{Mask}
use Rattle.kinds.specs.declared.wide.Wide.{Wide}
use Rattle.kinds.specs.Sets.{most}
use Rattle.kinds.specs.Masks.{marks}

-- a mask without members
abbrev pub blank : Mask
blank = record { bits = 0 }

-- the word at the place k
abbrev pub word : Wide → ℕ → Mask
word w k = slice_index_or w.words k blank

-- each word has the next 64 choices
abbrev pub spans : Wide → ℕ → Bool
spans w v = nat_lt v most && marks (word w (v / 64)) (v % 64)
