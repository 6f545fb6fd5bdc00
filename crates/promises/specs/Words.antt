-- Each refusal in plain words: of a rule code, what is wrong with it.
use Rattle.std.specs.Prelude.{ℕ, List, codes}
use Rattle.plfd.specs.Words.{fault_words}
use Rattle.promises.specs.declared.refusals.Refusal.{Refusal}
use Rattle.promises.specs.declared.refusals.Refusal.TheVariants.{SizeZero, SettingsFull, SuppositionOpen, RuleCode, RulesFull, RowTooShort, NoSuchRule, BufferTooShort, NotAChoice}

abbrev pub refusal_words : Refusal → List ℕ
refusal_words SizeZero = codes "a setting needs at least one choice"
refusal_words SettingsFull = codes "128 settings exist already"
refusal_words SuppositionOpen = codes "a supposition is open"
refusal_words (RuleCode code) = fault_words code.fault
refusal_words RulesFull = codes "256 rules stand already"
refusal_words RowTooShort = codes "the row is shorter than the settings"
refusal_words NoSuchRule = codes "there is no such rule"
refusal_words BufferTooShort = codes "the buffer is too short"
refusal_words (NotAChoice x) = codes "the setting has no such choice"
