-- What a line that makes no call is answered.
use Rattle.std.specs.Prelude.{ℕ, List, codes}
use Rattle.lines.specs.declared.calls.Expected.{Expected}
use Rattle.lines.specs.declared.calls.Expected.TheVariants.{Call, Declare, Lay, Write, Judge}
use Rattle.lines.specs.declared.calls.LineError.{LineError}
use Rattle.lines.specs.declared.calls.LineError.TheVariants.{NotACall, Memory}

abbrev pub expected_text : Expected → List ℕ
expected_text Call = codes "expected declare, lay, write or judge"
expected_text Declare = codes "expected declare SIZE, a number up to 65535"
expected_text Lay = codes "expected lay BYTE BYTE .., each of two hexadecimal digits"
expected_text Write = codes "expected write RULE or write RULE ROOM, numbers up to 65535"
expected_text Judge = codes "expected judge CHOICE CHOICE .., numbers up to 65535"

abbrev pub line_error_text : LineError → List ℕ
line_error_text (NotACall e) = expected_text e
line_error_text (Memory e) = codes "memory allocation failed"
