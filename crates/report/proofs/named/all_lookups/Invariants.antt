use Rattle.std.proofs.Common.{vec_items}
use Rattle.kept.specs.Ranges.{Ascends}
use Rattle.report.proofs.named.all_lookups.Given as goal

abbrev pub invariant-loop-feature : goal.invariant-loop-feature
invariant-loop-feature g l = Ascends (vec_items l.set)
