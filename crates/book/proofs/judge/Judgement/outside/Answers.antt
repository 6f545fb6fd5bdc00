-- The first setting beside a choice that it lacks is the lowest.
use Rattle.std.proofs.Common.{rules, tests, ◌≡◌, length, take, ap, ◌∙◌}
use Rattle.std.specs.List.{position, zip}
use Rattle.std.proofs.lemmas.Iterator.{YieldsList-from_slice, YieldsList-from_zip}
use Rattle.std.proofs.lemmas.Iterator.Search.{position_from_yields_List}
use Rattle.book.proofs.Judged.{finds_lowest, lacks, zip_take}
use Rattle.book.proofs.judge.Judgement.outside.Goals as goal

pub returns : goal.returns
returns c =
    let j = c.args.self.now in
    let S = j.book.now.settings in
    let row = take (length S) j.row.now in
    let is : c.position.result ≡ position lacks (zip S row) =
    position_from_yields_List lacks c.position.new.self _ c.position.result c.position.ensures.ran
    (YieldsList-from_zip (YieldsList-from_slice S cc) (YieldsList-from_slice row cc)) (λ x b q k. search (rules, tests)) in
    record { finds = finds_lowest S j.row.now j.long c.position.result (is ∙ ap (position lacks) (zip_take S j.row.now)) }
