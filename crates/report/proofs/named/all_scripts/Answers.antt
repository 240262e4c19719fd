use Rattle.report.proofs.named.all_scripts.Goals as goal

pub loop-at-preserved : goal.loop-at-preserved
loop-at-preserved g c = c.put.ensures.ascending c.loop-at.invariant
