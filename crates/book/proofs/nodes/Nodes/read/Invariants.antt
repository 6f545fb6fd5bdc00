-- What is read so far stands behind the nodes that stood, and reading goes on as the definition does.
use Rattle.std.proofs.Common.{◌≡◌, ◌-◌, length}
use Rattle.book.proofs.Progress.{Partial}
use Rattle.book.proofs.nodes.Nodes.read.Given as goal

abbrev pub invariant-loop-reader : goal.invariant-loop-reader
invariant-loop-reader l = Partial l.settings l.initial.self.placed l.code l.self.placed l.formulas l.reader.place × (l.reader.bytes.now ≡ l.code)

abbrev pub decreases-loop-reader : goal.decreases-loop-reader
decreases-loop-reader l = length l.code - l.reader.place
