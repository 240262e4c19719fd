use Rattle.std.proofs.Common.{◌≡◌, eqb, map, drop}
use Rattle.source.specs.Standings.{listed}
use Rattle.numbering.specs.Systems.{Walk, walk_scripts, code_of}
use Rattle.numbering.specs.Context.{Agrees}
use Rattle.numbering.proofs.systems.PruneLangSysContext.prune_scripts.Given as goal
use Rattle.numbering.specs.Sets.{lookup_beside}

abbrev pub invariant-loop-script : goal.invariant-loop-script
invariant-loop-script g l =
    let xs = listed (g.S.Source.reading l.walk.source.now).scripts in
    let walk = walk_scripts (lookup_beside eqb l.walk.matches.matched.now l.walk.matches.earliest.now) (map code_of l.walk.tags.now) in
    (v : Walk) → Agrees l.walk.matches.matched.now l.initial.self v → (w : Walk) × Agrees l.walk.matches.matched.now l.self w × (walk l.script (drop l.script xs) w ≡ walk 0 xs v)
