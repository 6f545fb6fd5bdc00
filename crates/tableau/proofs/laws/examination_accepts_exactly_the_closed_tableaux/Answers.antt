-- The law is proved.
use Rattle.tableau.proofs.Examined.{examination_is_exact}
use Rattle.tableau.proofs.laws.examination_accepts_exactly_the_closed_tableaux.Goals as goal

pub returns : goal.returns
returns c = record { law = examination_is_exact }
