use Rattle.std.proofs.Common.{◌≡◌, ◌<◌, drop}
use Rattle.numbering.specs.Chains.{mixed}
use Rattle.numbering.specs.Sets.{somes}
use Rattle.numbering.proofs.sequence.mix_numbers.Given as goal

abbrev pub invariant-loop-k : goal.invariant-loop-k
invariant-loop-k g l =
    let xs = g.Q.Sequence.places l.q in
    (l.h < 65521) × (mixed l.h (somes (drop l.k xs)) ≡ mixed l.start (somes xs))
