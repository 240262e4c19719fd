use Rattle.std.proofs.Common.{refl, rules}
use Rattle.source.specs.Questions.{variation_record, no_substitution, substitution_records}
use Rattle.numbering.specs.Stages.{names_alternate}
use Rattle.numbering.proofs.Members.{any_by}
use Rattle.numbering.proofs.subset.Subset.substitution_names.Goals as goal

pub returns : goal.returns
returns g c =
    let subset = c.args.self.now in
    let table = (variation_record (g.S.Source.reading subset.source.now) c.args.at).substitution in
    any_by (names_alternate subset.lookups.items.now c.args.i) (substitution_records table) no_substitution _ _ _ _ refl c.substitution_count.ensures c.any.ensures.ran (λ x b f h. search rules)
