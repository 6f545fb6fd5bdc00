-- What a reader holds: the bytes that are still ahead of it.
use Rattle.std.specs.Prelude.{ℕ, List, drop, Ok, Err, Result}
use Rattle.plfd.specs.declared.reader.Reader.{Reader}
use Rattle.plfd.specs.declared.nodes.Node.{Node}
use Rattle.plfd.specs.declared.faults.CodeRefusal.{CodeRefusal}
use Rattle.plfd.specs.Code.{width}

abbrev pub ahead : Reader → List ℕ
ahead r = drop r.place r.bytes.now

-- how many bytes a reader passes with a command: none where it is refused
abbrev pub passed : Result Node CodeRefusal → ℕ
passed (Ok n) = width n
passed (Err e) = 0
