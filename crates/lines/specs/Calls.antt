-- What the calls of a script ask for, with plain lists for the code's vectors, and what a line may be read as.
use Rattle.std.specs.Prelude.{◌≡◌, ℕ, List, Some, None, Ok, Err, vec_items, Option, Result}
use Rattle.lines.specs.declared.calls.Call.{Call}
use Rattle.lines.specs.declared.calls.Call.TheVariants.{Declare, Lay, Write, Judge}
use Rattle.lines.specs.declared.calls.Expected.{Expected}
use Rattle.lines.specs.declared.calls.LineError.{LineError}
use Rattle.lines.specs.declared.calls.LineError.TheVariants.{NotACall, Memory}

pub data Request : Type 0 where
  declare : (size : ℕ) → Request
  lay : (code : List ℕ) → Request
  write : (rule room : ℕ) → Request
  judge : (row : List ℕ) → Request

abbrev pub request_of : Call → Request
request_of (Declare size) = declare size
request_of (Lay code) = lay (vec_items code)
request_of (Write rule room) = write rule room
request_of (Judge row) = judge (vec_items row)

pub data Meaning : Type 0 where
  blank : Meaning
  a_call : Request → Meaning
  not_a_call : Expected → Meaning

-- what the call says that was read, or none
abbrev pub meaning : Option Call → Meaning
meaning None = blank
meaning (Some c) = a_call (request_of c)

-- the error says what was expected; where memory ran out, nothing is said
abbrev pub FailsAs : Meaning → LineError → Type 0
FailsAs m (NotACall e) = m ≡ not_a_call e
FailsAs m (Memory e) = Unit {0}

-- the error says that x was expected, and o is none; where memory ran out, nothing is said
abbrev pub FailsWith : {A : Type 0} → Expected → Option A → LineError → Type 0
FailsWith x o (NotACall e) = (e ≡ x) × (o ≡ None)
FailsWith x o (Memory e) = Unit {0}

-- a line that names a call and has the meaning m is read as r
abbrev pub CallReadAs : Meaning → Result Call LineError → Type 0
CallReadAs m (Ok c) = m ≡ a_call (request_of c)
CallReadAs m (Err e) = FailsAs m e

-- any line with the meaning m is read as r
abbrev pub ReadAs : Meaning → Result (Option Call) LineError → Type 0
ReadAs m (Ok o) = m ≡ meaning o
ReadAs m (Err e) = FailsAs m e
