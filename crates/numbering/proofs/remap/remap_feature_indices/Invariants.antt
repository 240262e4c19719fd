use Rattle.numbering.proofs.Remapping.{Holds}
use Rattle.numbering.proofs.remap.remap_feature_indices.Given as goal

abbrev pub invariant-loop-k : goal.invariant-loop-k
invariant-loop-k l = Holds l.retained l.earliest l.initial.numbers l.k l.numbers l.own
