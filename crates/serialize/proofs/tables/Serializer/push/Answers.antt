use Rattle.std.proofs.Common.{refl, arith}
use Rattle.serialize.proofs.Openings.{pushes-begun}
use Rattle.serialize.proofs.tables.Serializer.push.Goals as goal

pub returns : goal.returns
returns c = record { pushed = λ w sound. pushes-begun w c.args.self.now c.args.counts.now sound (omega arith) _ _ c.begin.ensures.begun refl }
