use Rattle.std.proofs.Common.{arith}
use Rattle.serialize.proofs.Openings.{discards}
use Rattle.serialize.proofs.Keeps.{counts_same}
use Rattle.serialize.proofs.tables.Serializer.pop_discard.Goals as goal

pub returns : goal.returns
returns c = record { discarded = λ w sound e. discards w c.args.self.now c.args.counts.now sound _ c.args.token.level c.args.token.ok.0 e (counts_same _ _ (omega arith) (omega arith) (omega arith) (omega arith) (omega arith) (omega arith)) }
