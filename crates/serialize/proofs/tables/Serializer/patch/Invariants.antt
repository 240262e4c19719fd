use Rattle.std.proofs.Common.{◌≡◌, ℕ, suc, ◌<◌, List, length, drop}
use Rattle.serialize.specs.declared.tables.Counts.{Counts}
use Rattle.serialize.specs.Objects.{Fields}
use Rattle.serialize.specs.Tables.{pool_to, Sound}
use Rattle.serialize.specs.Laying.{patched}
use Rattle.serialize.proofs.tables.Serializer.patch.Given as goal

abbrev pub invariant-loop-link : goal.invariant-loop-link
invariant-loop-link l =
    (w : List ℕ) (c : Counts) → Sound w l.self c → l.i < c.objects → Fields 0 l.links (length l.initial.part) l.i → patched l.part (drop l.link-index l.links) (pool_to w l.self (suc l.i)) ≡ patched l.initial.part l.links (pool_to w l.self (suc l.i))
