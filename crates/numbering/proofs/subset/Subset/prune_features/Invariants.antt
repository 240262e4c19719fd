use Rattle.std.proofs.Common.{◌≡◌, ◌≤◌, ◌++◌, take, drop}
use Rattle.numbering.specs.Stages.{survivors}
use Rattle.numbering.proofs.subset.Subset.prune_features.Given as goal

abbrev pub invariant-loop-i : goal.invariant-loop-i
invariant-loop-i g l =
    let r = g.S.Source.reading l.self.source.now in
    let ls = l.self.lookups.items.now in
    (l.n ≤ l.i-index) × (take l.n l.out ++ survivors r ls (drop l.i-index l.features) ≡ survivors r ls l.features)
