-- The number of each refusal, and the offset or setting that it names.
use Rattle.std.specs.Prelude.{ℕ, Some, None, Ok, Err, Option, Result}
use Rattle.plfd.specs.Answers.{Reason, reason, reason_at, Answer, given, refused}
use Rattle.plfd.specs.Faults.{fault}
use Rattle.promises.specs.declared.refusals.Refusal.{Refusal}
use Rattle.promises.specs.declared.refusals.Refusal.TheVariants.{SizeZero, SettingsFull, SuppositionOpen, RuleCode, RulesFull, RowTooShort, NoSuchRule, BufferTooShort, NotAChoice}

-- each refusal's number, with the value that it names
abbrev pub reason_of : Refusal → Reason
reason_of SizeZero = reason 1
reason_of SettingsFull = reason 2
reason_of SuppositionOpen = reason 3
reason_of (RuleCode e) = fault e.fault e.offset
reason_of RulesFull = reason_at 12 0
reason_of RowTooShort = reason 17
reason_of NoSuchRule = reason 20
reason_of BufferTooShort = reason 21
reason_of (NotAChoice x) = reason_at 22 x

-- the number of a reason, and the value that it names, if it names one
abbrev pub number_of : Reason → ℕ
number_of (reason n) = n
number_of (reason_at n v) = n

abbrev pub value_of : Reason → Option ℕ
value_of (reason n) = None
value_of (reason_at n v) = Some v

-- what a call's result says
abbrev pub told : {A : Type 0} → Result A Refusal → Answer A
told (Ok a) = given a
told (Err e) = refused (reason_of e)
