-- A page: what a book means.
use Rattle.std.specs.Prelude.{ℕ, List, [], ◌∷◌, ◌++◌}
use Rattle.plfd.specs.declared.settings.Setting.{Setting}
use Rattle.plfd.specs.Formula.{Formula}

-- the declared settings, the standing rules in the order of their laying, and for each open supposition,
-- the innermost first, how many rules stood when it opened
pub record Page : Type 0 where
  pub settings : List Setting
  pub rules : List Formula
  pub suppositions : List ℕ

-- the page of a new book
abbrev pub blank : Page
blank = record { settings = []; rules = []; suppositions = [] }

-- the page with one setting more, or one rule more, behind the others
abbrev pub with_setting : Page → Setting → Page
with_setting p s = record { settings = p.settings ++ s ∷ []; rules = p.rules; suppositions = p.suppositions }

abbrev pub with_rule : Page → Formula → Page
with_rule p f = record { settings = p.settings; rules = p.rules ++ f ∷ []; suppositions = p.suppositions }
