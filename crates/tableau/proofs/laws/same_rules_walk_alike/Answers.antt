-- The law is proved.
use Rattle.tableau.proofs.Likeness.{same_rules_walk_alike}
use Rattle.tableau.proofs.laws.same_rules_walk_alike.Goals as goal

pub returns : goal.returns
returns c = record { law = same_rules_walk_alike }
