use Rattle.std.proofs.Common.{suc, length, sym, ap, ◌∙◌, subst, arith}
use Rattle.std.proofs.lemmas.Bool.{both_ways}
use Rattle.serialize.specs.Tables.{object_at, pool_to}
use Rattle.serialize.specs.Objects.{Fields}
use Rattle.serialize.specs.Laying.{patched}
use Rattle.serialize.proofs.Layings.{linked-at, entry-lies}
use Rattle.serialize.proofs.tables.Serializer.put_object.Goals as goal
use Rattle.serialize.proofs.tables.Serializer.put_object.Goals.{then-not-lies-via-then-not-lies, then-not-lies-via-else-not-lies+then-tail-head}

pub returns-then-not-lies : goal.returns-then-not-lies
returns-then-not-lies c =
    record {
      patched = λ k sound packed sized. let e = entry-lies c.args.work.now c.args.self.now k c.args.i sound packed in
          elim c.then-not-lies.branch [
            | then-not-lies-via-then-not-lies v ↦ absurd (both_ways _ v.if-not-lies.true (c.lies.ensures.lies.1 e))
            | then-not-lies-via-else-not-lies+then-tail-head v ↦ absurd (omega arith)
          ];
    }

pub returns : goal.returns
returns c =
    let w = c.args.work.now in
    let s = c.args.self.now in
    let i = c.args.i in
    let a = c.copy_from_slice.ensures.after in
    record { patched = λ k sound packed sized. c.patch.ensures.patched w k sound packed (subst (λ b. Fields 0 (object_at w s i).links (length b) i) (sym a) (linked-at w s _ i sound.base.linked packed)) ∙ ap (λ b. patched b (object_at w s i).links (pool_to w s (suc i))) a }
