use Rattle.std.proofs.Common.{ℕ, suc, ◌<◌, List, drop}
use Rattle.serialize.specs.declared.tables.Counts.{Counts}
use Rattle.serialize.specs.Objects.{Fields}
use Rattle.serialize.specs.Tables.{pool_to, Sound}
use Rattle.serialize.specs.Laying.{Short}
use Rattle.serialize.proofs.tables.Serializer.short.Given as goal

abbrev pub invariant-loop-link : goal.invariant-loop-link
invariant-loop-link l =
    (w : List ℕ) (c : Counts) (m : ℕ) → Sound w l.self c → l.i < c.objects → Fields 0 l.links m l.i → (Short (pool_to w l.self (suc l.i)) (drop l.link-index l.links) → Short (pool_to w l.self (suc l.i)) l.links) × (Short (pool_to w l.self (suc l.i)) l.links → Short (pool_to w l.self (suc l.i)) (drop l.link-index l.links))
