-- Both laws are proved.
use Rattle.tableau.proofs.Limits.{walk_stays_within_limits}
use Rattle.tableau.proofs.Steps.{tape_stays_short}
use Rattle.tableau.proofs.laws.walk_stays_within_limits.Goals as goal

pub returns : goal.returns
returns c = record { places = walk_stays_within_limits; length = tape_stays_short }
