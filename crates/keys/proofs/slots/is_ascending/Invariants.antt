use Rattle.keys.proofs.Rising.{Rises}
use Rattle.keys.proofs.slots.is_ascending.Given as goal

abbrev pub invariant-loop-i : goal.invariant-loop-i
invariant-loop-i g l = Rises g.K.Key.before l.keys l.i
