use Rattle.std.proofs.Common.{◌≡◌, ℕ, List}
use Rattle.serialize.specs.declared.tables.Counts.{Counts}
use Rattle.serialize.specs.Tables.{pool_to, Sound}
use Rattle.serialize.specs.Laying.{AllShort}
use Rattle.serialize.proofs.tables.Serializer.all_short.Given as goal

abbrev pub invariant-loop-i : goal.invariant-loop-i
invariant-loop-i l = (w : List ℕ) (c : Counts) → Sound w l.self c → c.objects ≡ l.i-end → AllShort (pool_to w l.self l.i)
