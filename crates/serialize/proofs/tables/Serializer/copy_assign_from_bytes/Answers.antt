use Rattle.std.proofs.Common.{arith}
use Rattle.std.proofs.lemmas.Slice.{put_mid-paste}
use Rattle.serialize.proofs.Assigning.{assigns-to}
use Rattle.serialize.proofs.tables.Serializer.copy_assign_from_bytes.Goals as goal

pub returns : goal.returns
returns c =
    let z = c.in-Some.ensures.size in
    let b = c.args.bytes.now in
    record { assigned = λ sound some. assigns-to c.args.position b c.args.work.now _ c.args.self.now c.args.counts sound z.0 (omega (arith, z.2, z.3)) _ (put_mid-paste _ _ c.args.work.now _ b _ c.copy_from_slice.ensures.after (omega arith) (omega arith)) (omega (arith, z.2, z.3)); unopened = λ sound none. absurd (omega (arith, z.0)) }
