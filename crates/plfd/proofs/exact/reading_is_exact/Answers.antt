-- The law of reading is proved.
use Rattle.plfd.proofs.Exactness.{reading_is_exact}
use Rattle.plfd.proofs.exact.reading_is_exact.Goals as goal

pub returns : goal.returns
returns c = record { law = reading_is_exact }
