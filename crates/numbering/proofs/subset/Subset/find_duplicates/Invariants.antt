use Rattle.std.proofs.Common.{◌≡◌, ℕ, ◌<◌, ◌++◌, get_or, take, drop}
use Rattle.numbering.specs.Stages.{matched, earliest}
use Rattle.numbering.proofs.subset.Subset.find_duplicates.Given as goal

abbrev pub invariant-loop-v : goal.invariant-loop-v
invariant-loop-v g l =
    let r = g.S.Source.reading l.self.source.now in
    let ls = l.self.lookups.items.now in
    (take l.v l.survivors ++ matched r (drop l.v l.survivors) ≡ matched r l.survivors)
    × ((k : ℕ) → k < l.v → get_or l.out k 0 ≡ earliest r ls (take k l.survivors) (get_or l.survivors k 0))
    × g.E.Earlier.holds l.earlier r ls l.survivors l.v
