use Rattle.std.proofs.Common.{◌∙◌, arith}
use Rattle.std.proofs.lemmas.Slice.{put_mid-paste}
use Rattle.serialize.specs.Laying.{field}
use Rattle.serialize.proofs.Layings.{field-part, length-field}
use Rattle.serialize.proofs.lays.put_field.Goals as goal

pub returns : goal.returns
returns c =
    let z = c.size-size.ensures.size in
    let v = c.args.link.width in
    let n = c.args.distance in
    let e = length-field v n in
    record { put = λ within. put_mid-paste _ _ c.args.part.now _ (field v n) _ (c.copy_from_slice.ensures.after ∙ field-part v n _ _ z c.to_be_bytes-raw.ensures) (omega arith) (omega arith) }
