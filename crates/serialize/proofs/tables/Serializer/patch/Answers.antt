use Rattle.std.proofs.Common.{suc, sym, refl, ◌∙◌, arith}
use Rattle.serialize.specs.declared.tables.Link.{Link}
use Rattle.serialize.specs.declared.tables.Width.TheVariants.{Two}
use Rattle.serialize.specs.Tables.{pool_to}
use Rattle.serialize.proofs.Layings.{field_at, patched-more, patched-all}
use Rattle.serialize.proofs.tables.Serializer.patch.Goals as goal

abbrev blank : Link
blank = record { position = 0; target = 0; width = Two }

pub loop-link-init : goal.loop-link-init
loop-link-init c = λ w k sound packed fields. refl

pub loop-link-preserved : goal.loop-link-preserved
loop-link-preserved c = λ w k sound packed fields.
    let f = field_at 0 c.args.links.now _ _ c.loop-link.link-index blank fields (omega arith) in
    sym (patched-more c.loop-link.part c.args.links.now (pool_to w c.args.self.now (suc c.args.i)) c.loop-link.link-index c.put_field.new.part blank c.distance-distance.result c.loop-link-test.true (c.distance-distance.ensures.distance w k sound packed f.0) (c.put_field.ensures.put (omega (arith, f.1)))) ∙ c.loop-link.invariant w k sound packed fields

pub returns : goal.returns
returns c =
    record { patched = λ w k sound packed fields. sym (patched-all c.loop-link.part c.args.links.now (pool_to w c.args.self.now (suc c.args.i)) c.loop-link.link-index c.loop-link-test.false) ∙ c.loop-link.invariant w k sound packed fields }
