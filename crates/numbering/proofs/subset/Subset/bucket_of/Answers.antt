use Rattle.std.proofs.Common.{◌%◌, map, ap, ◌∙◌}
use Rattle.source.specs.declared.parts.FeaturePlace.TheVariants.{Listed}
use Rattle.source.specs.Questions.{feature, lookups_of, feature_record}
use Rattle.numbering.specs.Chains.{mixed}
use Rattle.numbering.specs.Sets.{somes, if_among}
use Rattle.numbering.proofs.Somes.{somes-among}
use Rattle.numbering.proofs.subset.Subset.bucket_of.Goals as goal

pub returns-clause-value : goal.returns-clause-value
returns-clause-value g c =
    let r = g.S.Source.reading c.args.self.now.source.now in
    let ls = c.args.self.now.lookups.items.now in
    let i = c.args.index in
    let xs = lookups_of (feature r (Listed i)) in
    ap (λ h. h % 239) (c.mix_numbers-h.ensures
    ∙ (ap (λ t. mixed (t % 65521) (somes (map (if_among ls) xs))) c.feature_tag.ensures
    ∙ ap (mixed ((feature_record r i).tag % 65521)) (somes-among ls xs)))
