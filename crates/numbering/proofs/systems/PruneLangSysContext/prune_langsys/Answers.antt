use Rattle.std.proofs.Common.{eqb, map, length, ap, ◌∙◌}
use Rattle.source.specs.Standings.{listed}
use Rattle.numbering.specs.Systems.{code_of, walk_scripts}
use Rattle.numbering.proofs.Whole.{chosen-retained}
use Rattle.numbering.proofs.systems.PruneLangSysContext.prune_langsys.Goals as goal
use Rattle.numbering.specs.Sets.{lookup_beside}

pub returns-clause-pruned : goal.returns-clause-pruned
returns-clause-pruned g c =
    let walk = c.args.walk.now in
    let r = g.S.Source.reading walk.source.now in
    let ms = walk.matches.matched.now in
    λ w a.
    let agrees = c.in_ok-prune_scripts.ensures w a in
    let kept = chosen-retained ms c.prune_scripts.new.self (walk_scripts (lookup_beside eqb ms walk.matches.earliest.now) (map code_of walk.tags.now) 0 (listed r.scripts) w) agrees in
    (agrees, c.choose.ensures.count ∙ ap length kept, c.choose.ensures.list ∙ kept)
