-- What is ahead is as long as the bytes less the place; and a command that is read has all of its bytes ahead.
use Rattle.std.proofs.Common.{◌≡◌, ◌+◌, ◌-◌, ◌≤◌, List, length, Ok, Err, Result, IfOk, sym, arith}
use Rattle.std.proofs.lemmas.List.{length-drop}
use Rattle.plfd.specs.declared.settings.Setting.{Setting}
use Rattle.plfd.specs.declared.nodes.Node.{Node}
use Rattle.plfd.specs.declared.faults.CodeFault.{CodeFault}
use Rattle.plfd.specs.declared.reader.Reader.{Reader}
use Rattle.plfd.specs.Code.{width}
use Rattle.plfd.specs.Cursor.{ahead}
use Rattle.plfd.specs.Faults.{told_fault}
use Rattle.plfd.specs.Reading.{commanded}
use Rattle.plfd.proofs.Spelling.{is_command}

pub left_ahead : (r : Reader) → length (ahead r) ≡ length r.bytes.now - r.place
left_ahead r = length-drop r.place r.bytes.now

pub read_within : (S : List Setting) (r : Reader) (answer : Result Node CodeFault) → told_fault r.place answer ≡ commanded S r.place (ahead r) → IfOk answer (λ n. r.place + width n ≤ length r.bytes.now)
read_within S r (Ok n) e =
    let long = (is_command S r.place (ahead r) n (sym e)).long in
    omega (arith, long, left_ahead r)
read_within S r (Err f) e = tt
