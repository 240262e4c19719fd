use Rattle.std.proofs.Common.{suc, get_or, sym, refl, subst, arith}
use Rattle.std.proofs.lemmas.Bool.{both_ways, false≢true}
use Rattle.serialize.specs.declared.tables.Link.{Link}
use Rattle.serialize.specs.declared.tables.Width.TheVariants.{Two}
use Rattle.serialize.specs.Tables.{pool_to}
use Rattle.serialize.specs.Laying.{Within}
use Rattle.serialize.proofs.Layings.{field_at, short-from, short-parts, short-end}
use Rattle.serialize.proofs.tables.Serializer.short.Goals as goal

abbrev blank : Link
blank = record { position = 0; target = 0; width = Two }

pub loop-link-init : goal.loop-link-init
loop-link-init c = λ w k m sound packed fields. (λ h. h, λ h. h)

pub returns-then-not-holds : goal.returns-then-not-holds
returns-then-not-holds c =
    record {
      short = λ w k m sound packed fields.
          let q = pool_to w c.args.self.now (suc c.args.i) in
          let f = field_at 0 c.args.links.now _ _ c.loop-link.link-index blank fields (omega arith) in
          let e = c.distance-distance.ensures.distance w k sound packed f.0 in
          (λ p. absurd (false≢true p), λ h. absurd (both_ways _ c.if-not-holds.true (c.holds.ensures.within.1 (subst (λ n. Within (get_or c.args.links.now c.loop-link.link-index blank).width n) (sym e) (short-parts q c.args.links.now c.loop-link.link-index blank c.loop-link-test.true ((c.loop-link.invariant w k m sound packed fields).1 h)).0))));
    }

pub loop-link-preserved : goal.loop-link-preserved
loop-link-preserved c = λ w k m sound packed fields.
    let q = pool_to w c.args.self.now (suc c.args.i) in
    let f = field_at 0 c.args.links.now _ _ c.loop-link.link-index blank fields (omega arith) in
    let e = c.distance-distance.ensures.distance w k sound packed f.0 in
    (λ h. (c.loop-link.invariant w k m sound packed fields).0 (short-from q c.args.links.now c.loop-link.link-index blank c.loop-link-test.true (subst (λ n. Within (get_or c.args.links.now c.loop-link.link-index blank).width n) e (c.holds.ensures.within.0 c.if-not-holds.false)) h), λ h. (short-parts q c.args.links.now c.loop-link.link-index blank c.loop-link-test.true ((c.loop-link.invariant w k m sound packed fields).1 h)).1)

pub returns : goal.returns
returns c =
    record {
      short = λ w k m sound packed fields.
          let q = pool_to w c.args.self.now (suc c.args.i) in
          (λ p. (c.loop-link.invariant w k m sound packed fields).0 (short-end q c.args.links.now c.loop-link.link-index c.loop-link-test.false), λ h. refl);
    }
