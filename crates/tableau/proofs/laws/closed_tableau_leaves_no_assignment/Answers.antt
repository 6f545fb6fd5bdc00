-- The law is proved.
use Rattle.tableau.proofs.Closing.{closed_is_sound}
use Rattle.tableau.proofs.laws.closed_tableau_leaves_no_assignment.Goals as goal

pub returns : goal.returns
returns c = record { law = closed_is_sound }
