use Rattle.std.proofs.Common.{◌+◌, eqb, get_or, drop, sym, ◌∙◌, subst, arith}
use Rattle.std.proofs.lemmas.List.{at_drop_all}
use Rattle.std.proofs.lemmas.Result.{err_from_is_err_and}
use Rattle.source.specs.declared.parts.LangSysPlace.TheVariants.{Default}
use Rattle.source.specs.Questions.{script, lang_sys_of, lang_sys_records, no_lang_sys}
use Rattle.numbering.specs.Systems.{record_step, walk_records}
use Rattle.numbering.specs.Context.{Agrees}
use Rattle.numbering.proofs.Walking.{records-at, records-more, step-ends, step-goes, step-full}
use Rattle.numbering.proofs.systems.PruneLangSysContext.prune_records.Goals as goal
use Rattle.numbering.specs.Sets.{lookup_beside}

pub returns-in_err-prune_record : goal.returns-in_err-prune_record
returns-in_err-prune_record g c =
    let r = g.S.Source.reading c.args.walk.now.source.now in
    let m = lookup_beside eqb c.args.walk.now.matches.matched.now c.args.walk.now.matches.earliest.now in
    let d = lang_sys_of r (Default c.args.at) in
    let xs = lang_sys_records (script r c.args.at) in
    let k = c.loop-k.k in
    let p = err_from_is_err_and c.from_residual.result c.from_residual.ensures.1 in
    rw (p.1, p.2)
    (λ v a.
    let i = c.loop-k.invariant v a in
    let full = c.in_err-prune_record.ensures i.0 i.1 in (
      full.0,
      step-full (record_step m d (record { script = c.args.at; lang_sys = k }) (get_or xs k no_lang_sys).table i.0) (walk_records m d c.args.at (k + 1) (drop (k + 1) xs)) _ _ (records-at m d c.args.at k xs i.0 (omega arith)) i.2 (records-more m d c.args.at (k + 1) (drop (k + 1) xs)) full.1,
    ))

pub returns-then-not-branch : goal.returns-then-not-branch
returns-then-not-branch g c =
    let r = g.S.Source.reading c.args.walk.now.source.now in
    let m = lookup_beside eqb c.args.walk.now.matches.matched.now c.args.walk.now.matches.earliest.now in
    let d = lang_sys_of r (Default c.args.at) in
    let xs = lang_sys_records (script r c.args.at) in
    let k = c.loop-k.k in
    λ v a.
    let i = c.loop-k.invariant v a in
    let ended = c.in_ok-prune_record.ensures i.0 i.1 in
    subst (Agrees c.args.walk.now.matches.matched.now c.prune_record.new.self)
    (step-ends (record_step m d (record { script = c.args.at; lang_sys = k }) (get_or xs k no_lang_sys).table i.0) (walk_records m d c.args.at (k + 1) (drop (k + 1) xs)) _ _ (records-at m d c.args.at k xs i.0 (omega arith)) i.2 (sym ended.0 ∙ c.if-not-branch.true))
    ended.1

pub loop-k-preserved : goal.loop-k-preserved
loop-k-preserved g c =
    let r = g.S.Source.reading c.args.walk.now.source.now in
    let m = lookup_beside eqb c.args.walk.now.matches.matched.now c.args.walk.now.matches.earliest.now in
    let d = lang_sys_of r (Default c.args.at) in
    let xs = lang_sys_records (script r c.args.at) in
    let k = c.loop-k.k in
    λ v a.
    let i = c.loop-k.invariant v a in
    let went = c.in_ok-prune_record.ensures i.0 i.1 in
    let st = record_step m d (record { script = c.args.at; lang_sys = k }) (get_or xs k no_lang_sys).table i.0 in
    (st.left, went.1, step-goes st (walk_records m d c.args.at (k + 1) (drop (k + 1) xs)) _ _ (records-at m d c.args.at k xs i.0 (omega arith)) i.2 (sym went.0 ∙ c.if-not-branch.false))

pub returns : goal.returns
returns g c =
    let r = g.S.Source.reading c.args.walk.now.source.now in
    let m = lookup_beside eqb c.args.walk.now.matches.matched.now c.args.walk.now.matches.earliest.now in
    let xs = lang_sys_records (script r c.args.at) in
    λ v a.
    let i = c.loop-k.invariant v a in
    subst (Agrees c.args.walk.now.matches.matched.now c.loop-k.self) (sym (at_drop_all (λ l. walk_records m (lang_sys_of r (Default c.args.at)) c.args.at c.loop-k.k l i.0) xs c.loop-k.k (omega arith)) ∙ i.2) i.1
