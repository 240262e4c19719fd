use Rattle.std.proofs.Common.{Err, ap, ◌∙◌, arith}
use Rattle.std.proofs.lemmas.Result.{err_from_is_err_and}
use Rattle.serialize.specs.declared.tables.Counts.{Counts}
use Rattle.serialize.proofs.Keeps.{counts_same}
use Rattle.serialize.proofs.Marking.{offset-refused, offset-added, zeros-are}
use Rattle.serialize.proofs.tables.Serializer.add_offset.Goals as goal

pub returns-in_err-add_link : goal.returns-in_err-add_link
returns-in_err-add_link c =
    let p = err_from_is_err_and c.from_residual-in_err-add_link.result c.from_residual-in_err-add_link.ensures.1 in
    let z = c.in-Some.ensures.size in
    let d = c.drop-mark-in_err-add_link.ensures in
    record {
      added = λ sound. let e = c.in_ok-embed_bytes.ensures.embedded sound in
          offset-refused c.args.width c.args.target c.args.work.now _ c.args.self.now _ c.args.counts.now sound z.0 c.in-Some.position z.3 _ _ _ _ _ _ (p.1 ∙ ap Err p.2) (counts_same _ _ (omega (arith, ap (λ (x : Counts). x.head) d)) (omega (arith, ap (λ (x : Counts). x.tail) d)) (omega (arith, ap (λ (x : Counts). x.lhead) d)) (omega (arith, ap (λ (x : Counts). x.ltail) d)) (omega (arith, ap (λ (x : Counts). x.objects) d)) (omega (arith, ap (λ (x : Counts). x.depth) d))) e (zeros-are c.args.width _ c.size-size.ensures.size) (c.in_err-add_link.ensures.added c.embed_bytes.new.work e.sound);
    }

pub returns : goal.returns
returns c =
    let z = c.in-Some.ensures.size in
    record {
      added = λ sound. let e = c.in_ok-embed_bytes.ensures.embedded sound in
          offset-added c.args.width c.args.target c.args.work.now _ c.args.self.now _ c.args.counts.now sound z.0 c.in-Some.position z.3 _ _ _ _ e (zeros-are c.args.width _ c.size-size.ensures.size) (c.in_ok-add_link.ensures.added c.embed_bytes.new.work e.sound) (cc);
    }
