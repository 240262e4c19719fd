use Rattle.std.proofs.Common.{vec_items}
use Rattle.keys.specs.Slots.{Ascending}
use Rattle.keys.specs.Tags.{TagBefore}
use Rattle.report.proofs.named.all_scripts.Given as goal

abbrev pub invariant-loop-at : goal.invariant-loop-at
invariant-loop-at g l = Ascending TagBefore (vec_items l.set)
