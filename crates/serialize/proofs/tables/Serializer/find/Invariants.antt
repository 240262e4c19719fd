use Rattle.std.proofs.Common.{◌≡◌, ℕ, ◌<◌}
use Rattle.serialize.specs.Tables.{hash_of, object_at, Entry}
use Rattle.serialize.proofs.tables.Serializer.find.Given as goal

abbrev pub invariant-loop-i : goal.invariant-loop-i
invariant-loop-i l = l.mark ≡ hash_of (record { bytes = l.bytes; links = l.links }) → (k : ℕ) → k < l.i → Entry l.work l.self 0 0 k → object_at l.work l.self k ≡ record { bytes = l.bytes; links = l.links } → ⊥
