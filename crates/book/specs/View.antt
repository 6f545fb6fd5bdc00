-- The page that the tables of a book mean.
use Rattle.std.specs.Prelude.{List, reverse}
use Rattle.plfd.specs.Formula.{Formula}
use Rattle.promises.specs.Page.{Page}
use Rattle.book.specs.declared.nodes.Placed.{Placed}
use Rattle.book.specs.declared.book.Book.{Book}
use Rattle.book.specs.Places.{made}

-- the first formula made is the first rule
abbrev pub rules_of : List Placed → List Formula
rules_of ps = reverse (made ps)

-- on a page the innermost supposition comes first
abbrev pub page_of : Book → Page
page_of b = record { settings = b.settings; rules = rules_of b.nodes.placed; suppositions = reverse b.suppositions }
