-- Each word so far is what the closure gave at its place; the others are as they were.
use Rattle.std.proofs.Common.{◌≡◌, ℕ, ◌<◌, ◌≤◌, length, get_or}
use Rattle.kinds.specs.Wides.{word, blank}
use Rattle.kinds.proofs.wide.Wide.zip_with.Given as goal

abbrev pub invariant-loop-i : goal.invariant-loop-i
invariant-loop-i g l =
    (length l.word-items ≡ 1024)
    × ((k : ℕ) → k < l.i → goal.F-post g l.f (word l.self k) (word l.other k) (get_or l.word-items k blank))
    × ((k : ℕ) → l.i ≤ k → get_or l.word-items k blank ≡ word l.self k)
