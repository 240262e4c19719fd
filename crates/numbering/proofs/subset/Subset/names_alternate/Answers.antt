use Rattle.source.specs.Questions.{variation_record, substitution_records}
use Rattle.numbering.proofs.Members.{other-feature}
use Rattle.numbering.proofs.subset.Subset.names_alternate.Goals as goal

pub returns-else-eq : goal.returns-else-eq
returns-else-eq g c =
    let subset = c.args.self.now in
    other-feature subset.lookups.items.now c.args.i (substitution_records (variation_record (g.S.Source.reading subset.source.now) c.args.at).substitution) c.args.k _ _ c.substituted_index.ensures c.eq.ensures c.if-eq.false
