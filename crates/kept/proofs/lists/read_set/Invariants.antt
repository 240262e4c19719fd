use Rattle.std.proofs.Common.{◌==◌, length, vec_items}
use Rattle.std.specs.List.{slice_split}
use Rattle.keys.specs.Slots.{Ascending}
use Rattle.kept.specs.Cuts.{Covers}
use Rattle.kept.proofs.lists.read_set.Given as goal

abbrev pub invariant-loop-part : goal.invariant-loop-part
invariant-loop-part g l =
    let key = g.P.Key.Key in
    Ascending key.before (vec_items l.set) × Covers key.same g.P.Part.says g.P.Part.has (slice_split (λ b. b == 44) l.text) (vec_items l.set) (length l.yielded)
