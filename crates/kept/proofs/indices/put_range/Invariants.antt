use Rattle.std.proofs.Common.{vec_items}
use Rattle.kept.specs.Ranges.{Ascends, Filled}
use Rattle.kept.proofs.indices.put_range.Given as goal

abbrev pub invariant-loop-index : goal.invariant-loop-index
invariant-loop-index l = (Ascends (vec_items l.initial.set) → Ascends (vec_items l.set)) × Filled (vec_items l.initial.set) (vec_items l.set) l.fn.run.first l.index
