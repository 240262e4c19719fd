use Rattle.numbering.proofs.Chaining.{Past, after}
use Rattle.numbering.proofs.chains.Chains.earliest_match.Given as goal

abbrev pub invariant-loop-at : goal.invariant-loop-at
invariant-loop-at g l = Past (g.S.Source.reading l.subset.source.now) l.subset.lookups.items.now l.survivors l.v (after l.at)

abbrev pub decreases-loop-at : goal.decreases-loop-at
decreases-loop-at g l = after l.at
