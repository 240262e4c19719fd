use Rattle.std.proofs.Common.{length, sym, ap, ◌∙◌, arith}
use Rattle.std.proofs.lemmas.List.{length-take-le}
use Rattle.numbering.proofs.Growing.{all-chosen}
use Rattle.numbering.proofs.systems.PruneLangSysContext.choose.Goals as goal

pub returns-clause-count : goal.returns-clause-count
returns-clause-count c =
    let list = all-chosen c.args.self.now.named c.args.from.now c.loop-p.p _ _ c.loop-p-test.false c.loop-p.invariant.1 in
    sym (length-take-le c.loop-p.n c.loop-p.out (omega (arith, c.requires.room))) ∙ ap length list

pub returns-clause-list : goal.returns-clause-list
returns-clause-list c = all-chosen c.args.self.now.named c.args.from.now c.loop-p.p _ _ c.loop-p-test.false c.loop-p.invariant.1
