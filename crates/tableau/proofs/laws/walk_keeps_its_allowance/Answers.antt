-- The law is proved.
use Rattle.tableau.proofs.Steps.{walk_keeps_its_allowance}
use Rattle.tableau.proofs.laws.walk_keeps_its_allowance.Goals as goal

pub returns : goal.returns
returns c = record { law = walk_keeps_its_allowance }
