use Rattle.std.proofs.Common.{◌≡◌, ◌-◌, refl, ap, ◌∙◌, subst, arith}
use Rattle.serialize.specs.Tables.{entry_at, Chain}
use Rattle.serialize.proofs.Layings.{entry-places, so_far, so-far-none, so_far_more, so-far-all}
use Rattle.std.proofs.lemmas.List.Edits.{length-between}
use Rattle.serialize.proofs.tables.Serializer.lay_all.Goals as goal
use Rattle.serialize.proofs.tables.Serializer.lay_all.Goals.{then-from-tail-via-then-from-tail, then-from-tail-via-else-from-tail+then-to-from, then-from-tail-via-else-from-tail+else-to-from+then-to-tail}

pub loop-i-init : goal.loop-i-init
loop-i-init c = λ k sound n t room. so-far-none c.args.work.now c.args.self.now c.args.out.now c.args.counts.objects

pub returns-then-from-tail : goal.returns-then-from-tail
returns-then-from-tail c =
    record {
      laid = λ sound room. let p = entry-places c.args.work.now c.args.self.now _ _ _ sound.base.chain c.loop-i.i c.loop-i-test.true in
          elim c.then-from-tail.branch [
            | then-from-tail-via-then-from-tail v ↦ absurd (omega (arith, p.0, v.if-from-tail.true))
            | then-from-tail-via-else-from-tail+then-to-from v ↦ absurd (omega (arith, p.1, v.if-to-from.true))
            | then-from-tail-via-else-from-tail+else-to-from+then-to-tail v ↦ absurd (omega (arith, p.4, v.if-to-tail.true, c.loop-i.auto.out))
          ];
    }

pub loop-i-preserved : goal.loop-i-preserved
loop-i-preserved c = λ k sound n t room.
    let w = c.args.work.now in
    let s = c.args.self.now in
    let i = c.loop-i.i in
    let chain : Chain w s c.args.counts.objects c.args.counts.tail k.ltail = subst (λ h. Chain w s c.args.counts.objects h k.ltail) t (subst (λ m. Chain w s m k.tail k.ltail) n sound.base.chain) in
    let p = entry-places w s _ _ _ chain i c.loop-i-test.true in
    let x = entry_at s i in
    let z = length-between c.loop-i.out (x.head - c.args.counts.tail) (x.tail - c.args.counts.tail) (omega (arith, p.4, c.loop-i.auto.out)) in
    so_far_more w s _ _ _ chain c.args.out.now c.loop-i.out _ i c.loop-i-test.true room (c.loop-i.invariant k sound n t room) (c.put_object.ensures.patched k sound (omega arith) (omega (arith, z, p.0, p.1)))

pub returns : goal.returns
returns c =
    record {
      laid = λ sound room.
          let w = c.args.work.now in
          let s = c.args.self.now in
          let e : c.loop-i.i ≡ c.args.counts.objects = omega arith in
          c.loop-i.invariant c.args.counts sound refl refl room ∙ ap (so_far w s c.args.out.now c.args.counts.objects) e ∙ so-far-all w s c.args.out.now c.args.counts.objects;
    }
