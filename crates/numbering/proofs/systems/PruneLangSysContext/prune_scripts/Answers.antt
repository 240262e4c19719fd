use Rattle.std.proofs.Common.{◌+◌, eqb, map, get_or, drop, sym, ap, ◌∙◌, subst, arith}
use Rattle.std.proofs.lemmas.List.{at_drop_all}
use Rattle.std.proofs.lemmas.Result.{err_from_is_err_and}
use Rattle.source.specs.Questions.{no_script}
use Rattle.source.specs.Standings.{listed, counted}
use Rattle.numbering.specs.Systems.{code_of, script_step, walk_scripts}
use Rattle.numbering.specs.Context.{Agrees}
use Rattle.numbering.proofs.Walking.{listed-count, scripts-at, scripts-more, step-ends, step-goes, step-full}
use Rattle.numbering.proofs.systems.PruneLangSysContext.prune_scripts.Goals as goal
use Rattle.numbering.specs.Sets.{lookup_beside}

pub returns-in_err-prune_script : goal.returns-in_err-prune_script
returns-in_err-prune_script g c =
    let r = g.S.Source.reading c.args.walk.now.source.now in
    let m = lookup_beside eqb c.args.walk.now.matches.matched.now c.args.walk.now.matches.earliest.now in
    let ts = map code_of c.args.walk.now.tags.now in
    let xs = listed r.scripts in
    let k = c.loop-script.script in
    let size = c.count-count.ensures ∙ (ap counted c.script_list.ensures ∙ listed-count r.scripts) in
    let p = err_from_is_err_and c.from_residual.result c.from_residual.ensures.1 in
    rw (p.1, p.2)
    (λ v a.
    let i = c.loop-script.invariant v a in
    let full = c.in_err-prune_script.ensures i.0 i.1 in (
      full.0,
      step-full (script_step m ts k (get_or xs k no_script) i.0) (walk_scripts m ts (k + 1) (drop (k + 1) xs)) _ _ (scripts-at m ts k xs i.0 (omega (arith, size))) i.2 (scripts-more m ts (k + 1) (drop (k + 1) xs)) full.1,
    ))

pub returns-then-not-branch : goal.returns-then-not-branch
returns-then-not-branch g c =
    let r = g.S.Source.reading c.args.walk.now.source.now in
    let m = lookup_beside eqb c.args.walk.now.matches.matched.now c.args.walk.now.matches.earliest.now in
    let ts = map code_of c.args.walk.now.tags.now in
    let xs = listed r.scripts in
    let k = c.loop-script.script in
    let size = c.count-count.ensures ∙ (ap counted c.script_list.ensures ∙ listed-count r.scripts) in
    λ v a.
    let i = c.loop-script.invariant v a in
    let ended = c.in_ok-prune_script.ensures i.0 i.1 in
    subst (Agrees c.args.walk.now.matches.matched.now c.prune_script.new.self)
    (step-ends (script_step m ts k (get_or xs k no_script) i.0) (walk_scripts m ts (k + 1) (drop (k + 1) xs)) _ _ (scripts-at m ts k xs i.0 (omega (arith, size))) i.2 (sym ended.0 ∙ c.if-not-branch.true))
    ended.1

pub loop-script-preserved : goal.loop-script-preserved
loop-script-preserved g c =
    let r = g.S.Source.reading c.args.walk.now.source.now in
    let m = lookup_beside eqb c.args.walk.now.matches.matched.now c.args.walk.now.matches.earliest.now in
    let ts = map code_of c.args.walk.now.tags.now in
    let xs = listed r.scripts in
    let k = c.loop-script.script in
    let size = c.count-count.ensures ∙ (ap counted c.script_list.ensures ∙ listed-count r.scripts) in
    λ v a.
    let i = c.loop-script.invariant v a in
    let went = c.in_ok-prune_script.ensures i.0 i.1 in
    let st = script_step m ts k (get_or xs k no_script) i.0 in
    (st.left, went.1, step-goes st (walk_scripts m ts (k + 1) (drop (k + 1) xs)) _ _ (scripts-at m ts k xs i.0 (omega (arith, size))) i.2 (sym went.0 ∙ c.if-not-branch.false))

pub returns : goal.returns
returns g c =
    let r = g.S.Source.reading c.args.walk.now.source.now in
    let m = lookup_beside eqb c.args.walk.now.matches.matched.now c.args.walk.now.matches.earliest.now in
    let ts = map code_of c.args.walk.now.tags.now in
    let xs = listed r.scripts in
    let size = c.count-count.ensures ∙ (ap counted c.script_list.ensures ∙ listed-count r.scripts) in
    λ v a.
    let i = c.loop-script.invariant v a in
    subst (Agrees c.args.walk.now.matches.matched.now c.loop-script.self) (sym (at_drop_all (λ l. walk_scripts m ts c.loop-script.script l i.0) xs c.loop-script.script (omega (arith, size))) ∙ i.2) i.1
