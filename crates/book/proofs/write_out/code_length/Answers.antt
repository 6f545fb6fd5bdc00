-- The length of commands is the sum of theirs.
use Rattle.std.proofs.Common.{rules}
use Rattle.book.proofs.Written.{commands_length}
use Rattle.book.proofs.write_out.code_length.Goals as goal

pub returns : goal.returns
returns c = rw (commands_length c.args.nodes.now) (search rules)
