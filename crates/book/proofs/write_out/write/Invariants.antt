-- The commands passed are written, and the rest of the buffer is as it was.
use Rattle.book.proofs.Written.{WrittenTo}
use Rattle.book.proofs.write_out.write.Given as goal

abbrev pub invariant-loop-placed : goal.invariant-loop-placed
invariant-loop-placed l = WrittenTo l.nodes l.initial.buffer l.placed-index l.at l.buffer
