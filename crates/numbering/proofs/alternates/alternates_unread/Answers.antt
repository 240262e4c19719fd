use Rattle.std.proofs.Common.{refl, rules}
use Rattle.source.specs.Questions.{no_variation, variation_records}
use Rattle.numbering.specs.Stages.{unread_substitution}
use Rattle.numbering.proofs.Members.{any_by}
use Rattle.numbering.proofs.alternates.alternates_unread.Goals as goal

pub returns : goal.returns
returns g c = any_by unread_substitution (variation_records (g.S.Source.reading c.args.source.now).variations) no_variation _ _ _ _ refl c.variation_count.ensures c.any.ensures.ran (λ x b f h. search rules)
