use Rattle.std.proofs.Common.{refl, ap, ◌∙◌, rules}
use Rattle.std.specs.List.{slice_get}
use Rattle.source.specs.Standings.{counted}
use Rattle.source.specs.Questions.{feature, lookups_of}
use Rattle.numbering.specs.Sets.{among, passes}
use Rattle.numbering.proofs.Members.{any_over, lookup-count, passes-at}
use Rattle.numbering.proofs.subset.Subset.feature_intersects_lookups.Goals as goal

pub returns : goal.returns
returns g c =
    let subset = c.args.self.now in
    let table = feature (g.S.Source.reading subset.source.now) c.args.at in
    let xs = lookups_of table in
    let test = among subset.lookups.items.now in
    any_over test xs (λ k. passes test (slice_get xs k)) _ _ _ _ refl (c.count-count.ensures ∙ (ap counted c.feature.ensures ∙ lookup-count table)) (λ k d h. passes-at test xs k d h) c.any.ensures.ran (λ x b f h. search rules)
