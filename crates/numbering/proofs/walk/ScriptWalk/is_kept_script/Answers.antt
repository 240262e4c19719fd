use Rattle.std.proofs.Common.{map, ap, ◌∙◌}
use Rattle.std.proofs.lemmas.Bool.Decides.{same_from_decides}
use Rattle.numbering.specs.Sets.{among}
use Rattle.numbering.specs.Systems.{code_of}
use Rattle.numbering.proofs.Looking.{tag-among}
use Rattle.numbering.proofs.walk.ScriptWalk.is_kept_script.Goals as goal

pub returns : goal.returns
returns g c =
    let walk = c.args.self.now in
    same_from_decides c.contains.result _ (c.contains.ensures.held, c.contains.ensures.found walk.ascends) (tag-among walk.tags.now c.script_tag.result)
    ∙ ap (among (map code_of walk.tags.now)) c.script_tag.ensures
