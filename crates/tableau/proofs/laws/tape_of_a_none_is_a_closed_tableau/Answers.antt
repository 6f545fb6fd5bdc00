-- The law is proved.
use Rattle.tableau.proofs.Closing.{none_is_closed}
use Rattle.tableau.proofs.laws.tape_of_a_none_is_a_closed_tableau.Goals as goal

pub returns : goal.returns
returns c = record { law = none_is_closed }
