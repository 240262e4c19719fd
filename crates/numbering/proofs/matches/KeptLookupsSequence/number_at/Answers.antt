use Rattle.std.proofs.Common.{◌∙◌}
use Rattle.source.specs.declared.parts.FeaturePlace.TheVariants.{Listed}
use Rattle.source.specs.Questions.{feature, lookups_of}
use Rattle.numbering.specs.Sets.{if_among}
use Rattle.numbering.proofs.Somes.{place-none, place-some, kept_some}
use Rattle.numbering.proofs.matches.KeptLookupsSequence.number_at.Goals as goal

pub returns-in_err-lookup : goal.returns-in_err-lookup
returns-in_err-lookup g c =
    let q = c.args.self.now in
    let xs = lookups_of (feature (g.S.Source.reading q.subset.now.source.now) (Listed q.index)) in
    rw c.from_residual.ensures (place-none (if_among q.subset.now.lookups.items.now) xs c.args.k c.in_err-lookup.ensures)

pub returns : goal.returns
returns g c =
    let q = c.args.self.now in
    let ls = q.subset.now.lookups.items.now in
    let xs = lookups_of (feature (g.S.Source.reading q.subset.now.source.now) (Listed q.index)) in
    kept_some ls c.in_ok-lookup.lookup _ _ c.then_some.ensures c.contains.ensures ∙ place-some (if_among ls) xs c.args.k c.in_ok-lookup.lookup c.in_ok-lookup.ensures
