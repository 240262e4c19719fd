use Rattle.std.proofs.Common.{arith}
use Rattle.serialize.specs.declared.tables.Width.TheVariants.{Two}
use Rattle.serialize.proofs.Fielding.{last_some}
use Rattle.serialize.proofs.tables.Serializer.last_end.Goals as goal

pub returns : goal.returns
returns c =
    let e = last_some c.args.self.now.links c.args.start.lhead c.args.counts.lhead (record { position = 0; target = 0; width = Two }) (omega arith) (omega arith) in
    record { end = omega (arith, e, c.size.ensures.size) }
