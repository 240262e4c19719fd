use Rattle.std.proofs.Common.{refl, ◌∙◌, rules}
use Rattle.source.specs.Questions.{variation_record, no_substitution, substitution_records}
use Rattle.source.specs.Reading.{SubstitutionRecord}
use Rattle.numbering.specs.Stages.{is_unreadable}
use Rattle.numbering.proofs.Members.{any_by, unread-or, substitution-there}
use Rattle.numbering.proofs.alternates.unread_substitution.Goals as goal

pub returns-in-There : goal.returns-in-There
returns-in-There g c =
    let table = (variation_record (g.S.Source.reading c.args.source.now) c.args.at).substitution in
    let told = substitution-there table c.in-There.found c.in-There.ensures in
    any_by (λ (s : SubstitutionRecord). is_unreadable s.alternate) (substitution_records table) no_substitution _ _ _ _ refl told.1 c.any.ensures.ran (λ x b f h. search rules) ∙ unread-or _ _ told.0
