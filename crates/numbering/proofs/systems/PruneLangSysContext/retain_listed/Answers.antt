use Rattle.std.proofs.Common.{◌+◌, take, sym, subst, arith}
use Rattle.source.specs.Questions.{lang_sys_of, indices_of}
use Rattle.numbering.specs.Context.{Marked}
use Rattle.numbering.specs.Sets.{among}
use Rattle.numbering.proofs.Looking.{nth-found, nth-there}
use Rattle.numbering.proofs.Marking.{marked_more, marked_all}
use Rattle.numbering.proofs.systems.PruneLangSysContext.retain_listed.Goals as goal
use Rattle.numbering.proofs.systems.PruneLangSysContext.retain_listed.Goals.{in-Some, in_default}

pub loop-k-preserved : goal.loop-k-preserved
loop-k-preserved g c =
    let xs = indices_of (lang_sys_of (g.S.Source.reading c.args.walk.now.source.now) c.args.at) in
    let ms = c.args.walk.now.matches.matched.now in
    elim c.match-feature_index.branch [
      | in-Some w ↦
          subst (λ s. Marked ms (among (take (c.loop-k.k + 1) xs)) c.args.self.now s) (sym w.self-is)
          (marked_more xs c.loop-k.k w.in-Some.index (omega (arith, c.requires)) (nth-found xs c.loop-k.k w.in-Some.index w.in-Some.ensures) c.loop-k.invariant w.retain.ensures)
      | in_default w ↦ absurd (nth-there xs c.loop-k.k (omega (arith, c.requires)) w.in_default.ensures)
    ]

pub returns : goal.returns
returns g c =
    let xs = indices_of (lang_sys_of (g.S.Source.reading c.args.walk.now.source.now) c.args.at) in
    marked_all xs c.loop-k.k (omega arith) c.loop-k.invariant
