-- The law is proved.
use Rattle.tableau.proofs.Ends.{walk_ends_where_it_says}
use Rattle.tableau.proofs.laws.walk_ends_where_it_says.Goals as goal

pub returns : goal.returns
returns c = record { law = walk_ends_where_it_says }
