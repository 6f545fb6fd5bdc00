-- The place falls at each call.
use Rattle.book.proofs.judge.Judgement.+truth_at.Given as goal

abbrev pub decreases-truth_at : goal.decreases-truth_at
decreases-truth_at l = l.place
