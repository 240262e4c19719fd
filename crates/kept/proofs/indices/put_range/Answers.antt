use Rattle.std.proofs.Common.{◌+◌, arith, rules}
use Rattle.kept.proofs.Fills.{filled_none, filled_more, filled-all}
use Rattle.kept.proofs.indices.put_range.Goals as goal

pub loop-index-init : goal.loop-index-init
loop-index-init c = (λ up. up, filled_none _ c.args.run.first)

pub loop-index-preserved : goal.loop-index-preserved
loop-index-preserved c =
    (λ up. c.put.ensures.ascending (c.loop-index.invariant.0 up), filled_more _ _ _ c.args.run.first c.loop-index.index (omega arith) c.loop-index.invariant.1 (search rules))

pub returns-in_err-put : goal.returns-in_err-put
returns-in_err-put c =
    record { ascending = λ up. c.put.ensures.ascending (c.loop-index.invariant.0 up); filled = search rules }

pub returns-in_ok-put : goal.returns-in_ok-put
returns-in_ok-put c =
    record { ascending = λ up. c.put.ensures.ascending (c.loop-index.invariant.0 up); filled = filled-all _ _ c.args.run.first (c.loop-index.index + 1) _ (omega arith) (filled_more _ _ _ c.args.run.first c.loop-index.index (omega arith) c.loop-index.invariant.1 (search rules)) }

pub returns : goal.returns
returns c =
    record { ascending = c.loop-index.invariant.0; filled = filled-all _ _ c.args.run.first c.loop-index.index _ (omega arith) c.loop-index.invariant.1 }
