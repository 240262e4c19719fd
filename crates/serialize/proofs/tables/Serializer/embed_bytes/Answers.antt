use Rattle.std.proofs.Common.{arith}
use Rattle.std.proofs.lemmas.Slice.{put_mid-paste}
use Rattle.serialize.proofs.Embeds.{embeds-to}
use Rattle.serialize.proofs.Keeps.{counts_same}
use Rattle.serialize.proofs.tables.Serializer.embed_bytes.Goals as goal

pub returns : goal.returns
returns c =
    record { embedded = λ sound. embeds-to c.args.bytes.now c.args.work.now _ c.args.self.now c.args.counts.now (put_mid-paste _ _ c.args.work.now _ c.args.bytes.now _ c.copy_from_slice.ensures.after (omega arith) (omega arith)) sound (omega arith) _ (counts_same _ _ (omega arith) (omega arith) (omega arith) (omega arith) (omega arith) (omega arith)) }
