use Rattle.std.proofs.Common.{refl, subst, arith}
use Rattle.std.proofs.lemmas.Bool.{both_ways, false≢true}
use Rattle.serialize.specs.Tables.{pool_to}
use Rattle.serialize.specs.Laying.{AllShort}
use Rattle.serialize.proofs.Layings.{all-short_at, all-short-more}
use Rattle.serialize.proofs.tables.Serializer.all_short.Goals as goal

pub loop-i-init : goal.loop-i-init
loop-i-init c = λ w k sound e. tt

pub returns-then-not-object_short : goal.returns-then-not-object_short
returns-then-not-object_short c =
    record { short = λ w sound. (λ p. absurd (false≢true p), λ h. absurd (both_ways _ c.if-not-object_short.true ((c.object_short.ensures.short w c.args.counts sound c.loop-i-test.true).1 (all-short_at w c.args.self.now c.args.counts.objects c.loop-i.i h c.loop-i-test.true)))) }

pub loop-i-preserved : goal.loop-i-preserved
loop-i-preserved c = λ w k sound e.
    all-short-more w c.args.self.now c.loop-i.i ((c.object_short.ensures.short w k sound (omega arith)).0 c.if-not-object_short.false) (c.loop-i.invariant w k sound e)

pub returns : goal.returns
returns c =
    record { short = λ w sound. (λ p. subst (λ n. AllShort (pool_to w c.args.self.now n)) (omega arith) (c.loop-i.invariant w c.args.counts sound refl), λ h. refl) }
