-- The law is proved.
use Rattle.tableau.proofs.Models.{walk_decides}
use Rattle.tableau.proofs.laws.walk_decides.Goals as goal

pub returns : goal.returns
returns c = record { law = walk_decides }
