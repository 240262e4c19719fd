use Rattle.std.proofs.Common.{◌≡◌, [], ap, ◌∙◌, arith, rules}
use Rattle.source.specs.Standings.{counted}
use Rattle.kept.proofs.Fills.{filled_more, filled-all}
use Rattle.report.proofs.named.all_features.Goals as goal

pub loop-index-preserved : goal.loop-index-preserved
loop-index-preserved g c =
    (c.put.ensures.ascending c.loop-index.invariant.0, filled_more [] _ _ 0 c.loop-index.index (omega arith) c.loop-index.invariant.1 (search rules))

pub returns : goal.returns
returns g c =
    let e : c.loop-index.index ≡ c.count-index-end.result = omega arith in
    (c.loop-index.invariant.0, filled-all [] _ 0 c.loop-index.index _ (e ∙ (c.count-index-end.ensures ∙ ap counted c.feature_list.ensures)) c.loop-index.invariant.1)
