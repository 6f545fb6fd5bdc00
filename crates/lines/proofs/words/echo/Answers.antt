-- The words joined are the words spaced.
use Rattle.std.proofs.Common.{rules}
use Rattle.lines.proofs.Library.{joined_spaced}
use Rattle.lines.proofs.words.echo.Goals as goal

pub returns : goal.returns
returns c = grind (rules, joined_spaced)
