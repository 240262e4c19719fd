use Rattle.std.proofs.Common.{refl, rules}
use Rattle.source.specs.Questions.{no_variation, variation_records, substitution_records}
use Rattle.source.specs.Reading.{VariationRecord}
use Rattle.numbering.specs.Sets.{any}
use Rattle.numbering.specs.Stages.{names_alternate}
use Rattle.numbering.proofs.Members.{any_by}
use Rattle.numbering.proofs.subset.Subset.alternate_kept.Goals as goal

pub returns : goal.returns
returns g c =
    let subset = c.args.self.now in
    let test = λ (v : VariationRecord). any (names_alternate subset.lookups.items.now c.args.i) (substitution_records v.substitution) in
    any_by test (variation_records (g.S.Source.reading subset.source.now).variations) no_variation _ _ _ _ refl c.variation_count.ensures c.any.ensures.ran (λ x b f h. search rules)
