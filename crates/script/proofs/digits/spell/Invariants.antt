-- The words so far are those of the bytes so far.
use Rattle.std.proofs.Common.{◌≡◌, length, take, map}
use Rattle.script.specs.Saying.{hex_word}
use Rattle.script.proofs.digits.spell.Given as goal

abbrev pub invariant-loop-i : goal.invariant-loop-i
invariant-loop-i l = (length l.words ≡ 64) × (take l.i l.words ≡ map hex_word (take l.i l.bytes))
