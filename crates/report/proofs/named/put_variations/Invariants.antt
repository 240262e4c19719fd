use Rattle.std.proofs.Common.{vec_items}
use Rattle.kept.specs.Ranges.{Ascends}
use Rattle.report.proofs.named.put_variations.Given as goal

abbrev pub invariant-loop-variation : goal.invariant-loop-variation
invariant-loop-variation g l = Ascends (vec_items l.initial.set) → Ascends (vec_items l.set)
