use Rattle.std.proofs.Common.{rules}
use Rattle.std.proofs.lemmas.Iterator.{YieldsList-from_slice}
use Rattle.std.proofs.lemmas.Iterator.Consumers.{YieldsList-from_copied}
use Rattle.std.proofs.lemmas.Iterator.Search.{find_from_yields_List}
use Rattle.numbering.specs.Stages.{alike}
use Rattle.numbering.proofs.Matching.{found-earliest}
use Rattle.numbering.proofs.subset.Subset.first_alike.Goals as goal

pub returns : goal.returns
returns g c =
    let r = g.S.Source.reading c.args.self.now.source.now in
    let ls = c.args.self.now.lookups.items.now in
    let js = c.args.seen.now in
    let i = c.args.i in
    found-earliest r ls js i _ _ c.unwrap_or.ensures
    (find_from_yields_List (λ j. alike r ls j i) _ _ _ c.find.ensures.ran (YieldsList-from_copied (YieldsList-from_slice js cc)) (λ x b f k. search rules))
