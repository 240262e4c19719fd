use Rattle.std.proofs.Common.{arith}
use Rattle.serialize.proofs.Layings.{distance_is}
use Rattle.serialize.proofs.tables.Serializer.distance.Goals as goal

pub returns-then-target-holder : goal.returns-then-target-holder
returns-then-target-holder c =
    record { distance = λ w k sound packed older. absurd (omega (arith, (distance_is w c.args.self.now _ _ _ c.args.i c.args.link sound.base.chain packed older).0)) }

pub returns : goal.returns
returns c =
    record { distance = λ w k sound packed older. omega (arith, (distance_is w c.args.self.now _ _ _ c.args.i c.args.link sound.base.chain packed older).1) }
