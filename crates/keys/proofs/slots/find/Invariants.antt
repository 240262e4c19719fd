use Rattle.std.proofs.Common.{◌-◌}
use Rattle.keys.proofs.Searches.{Narrowed}
use Rattle.keys.proofs.slots.find.Given as goal

abbrev pub invariant-loop-low : goal.invariant-loop-low
invariant-loop-low g l = let k = g.K.Key in Narrowed k.before l.keys l.key l.low l.high

abbrev pub decreases-loop-low : goal.decreases-loop-low
decreases-loop-low g l = l.high - l.low
