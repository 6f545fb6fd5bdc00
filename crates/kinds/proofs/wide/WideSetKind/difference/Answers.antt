-- A choice is looked up in its word, and there the masks say which are members.
use Rattle.std.proofs.Common.{◌/◌, arith}
use Rattle.std.proofs.lemmas.Bool.Decides.{nat_tests}
use Rattle.kinds.proofs.wide.WideSetKind.difference.Goals as goal

pub returns : goal.returns
returns c = record { members = λ v. grind (arith, nat_tests, c.zip_with.ensures.words (v / 64)) }
