use Rattle.std.proofs.Common.{vec_items}
use Rattle.kept.specs.Ranges.{Ascends}
use Rattle.report.proofs.named.put_alternates.Given as goal

abbrev pub invariant-loop-substitution : goal.invariant-loop-substitution
invariant-loop-substitution g l = Ascends (vec_items l.initial.set) → Ascends (vec_items l.set)
