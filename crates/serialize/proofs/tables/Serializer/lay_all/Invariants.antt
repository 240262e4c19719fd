use Rattle.std.proofs.Common.{◌≡◌, ◌≤◌, length}
use Rattle.serialize.specs.declared.tables.Counts.{Counts}
use Rattle.serialize.specs.Objects.{size}
use Rattle.serialize.specs.Tables.{pool_to, Sound}
use Rattle.serialize.proofs.Layings.{so_far}
use Rattle.serialize.proofs.tables.Serializer.lay_all.Given as goal

abbrev pub invariant-loop-i : goal.invariant-loop-i
invariant-loop-i l =
    (c : Counts) → Sound l.work l.self c → c.objects ≡ l.i-end → c.tail ≡ l.tail → size (pool_to l.work l.self l.i-end) ≤ length l.initial.out → l.out ≡ so_far l.work l.self l.initial.out l.i-end l.i
