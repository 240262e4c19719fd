use Rattle.std.proofs.Common.{[], vec_items}
use Rattle.kept.specs.Ranges.{Ascends, Filled}
use Rattle.report.proofs.named.all_features.Given as goal

abbrev pub invariant-loop-index : goal.invariant-loop-index
invariant-loop-index g l = Ascends (vec_items l.set) × Filled [] (vec_items l.set) 0 l.index
