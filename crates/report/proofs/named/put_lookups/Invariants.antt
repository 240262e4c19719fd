use Rattle.std.proofs.Common.{vec_items}
use Rattle.kept.specs.Ranges.{Ascends}
use Rattle.report.proofs.named.put_lookups.Given as goal

abbrev pub invariant-loop-k : goal.invariant-loop-k
invariant-loop-k g l = Ascends (vec_items l.initial.set) → Ascends (vec_items l.set)
