-- A command that is read has all of its bytes ahead.
use Rattle.std.proofs.Common.{rules}
use Rattle.plfd.proofs.Ahead.{read_within}
use Rattle.plfd.proofs.reader.Reader.command.Goals as goal

pub invariant_of-self : goal.invariant_of-self
invariant_of-self c =
    let within = read_within c.args.settings.now c.args.self.now _ (c.decode_over.ensures.answer _) in
    search (within, rules)
