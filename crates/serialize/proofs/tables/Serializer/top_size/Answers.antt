use Rattle.std.proofs.Common.{refl, arith}
use Rattle.serialize.proofs.Packings.{top_of}
use Rattle.serialize.proofs.tables.Serializer.top_size.Goals as goal

pub returns-then-start-counts : goal.returns-then-start-counts
returns-then-start-counts c =
    record { size = λ w sound. let o = (top_of w c.args.self.now c.args.counts _ sound.stacked refl (omega arith)).opened in absurd (omega (arith, o.heads)) }
