-- The order of the refusals, and the answer where none holds.
use Rattle.std.proofs.Common.{arith}
use Rattle.std.proofs.lemmas.Bool.Decides.{nat_tests}
use Rattle.promises.proofs.Verdict.{judge_gives}
use Rattle.book.specs.View.{page_of}
use Rattle.book.proofs.book.Book.judge.Goals as goal

pub returns-in-Some : goal.returns-in-Some
returns-in-Some c = record { gives = judge_gives (page_of c.args.self.now) c.args.row.now _ (grind (arith, nat_tests)) }

pub returns : goal.returns
returns c = record { gives = judge_gives (page_of c.args.self.now) c.args.row.now _ (grind (arith, nat_tests)) }
