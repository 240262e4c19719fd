use Rattle.std.proofs.Common.{◌≡◌, eqb, drop}
use Rattle.source.specs.declared.parts.LangSysPlace.TheVariants.{Default}
use Rattle.source.specs.Questions.{script, lang_sys_of, lang_sys_records}
use Rattle.numbering.specs.Systems.{Walk, walk_records}
use Rattle.numbering.specs.Context.{Agrees}
use Rattle.numbering.proofs.systems.PruneLangSysContext.prune_records.Given as goal
use Rattle.numbering.specs.Sets.{lookup_beside}

abbrev pub invariant-loop-k : goal.invariant-loop-k
invariant-loop-k g l =
    let r = g.S.Source.reading l.walk.source.now in
    let xs = lang_sys_records (script r l.at) in
    let walk = walk_records (lookup_beside eqb l.walk.matches.matched.now l.walk.matches.earliest.now) (lang_sys_of r (Default l.at)) l.at in
    (v : Walk) → Agrees l.walk.matches.matched.now l.initial.self v → (w : Walk) × Agrees l.walk.matches.matched.now l.self w × (walk l.k (drop l.k xs) w ≡ walk 0 xs v)
