use Rattle.std.proofs.Common.{◌==◌, lit<, length, vec_items, subst, sym, rules}
use Rattle.std.specs.List.{slice_split}
use Rattle.std.proofs.lemmas.Iterator.Consumers.{YieldsList-at, YieldsList-turn, YieldsList-end}
use Rattle.std.proofs.lemmas.Iterator.Splits.{YieldsList-from_str_split}
use Rattle.std.proofs.lemmas.List.{length_push}
use Rattle.std.proofs.lemmas.List.Splits.{join_with_byte-slice_split}
use Rattle.kept.proofs.Covering.{covers_more, read_at}
use Rattle.kept.specs.Cuts.{Covers}
use Rattle.kept.proofs.lists.read_set.Goals as goal

pub loop-part-preserved : goal.loop-part-preserved
loop-part-preserved g c =
    let p = g.P.Part in
    let bs = c.args.text.now in
    let t = YieldsList-turn (YieldsList-at c.into_iter-part-iterator.ensures.into_iter_gives (YieldsList-from_str_split 44 bs (lit< tt) c.split-part-items.ensures.text c.split-part-items.ensures.has_more c.split-part-items.ensures.pattern)) c.loop-part.yielded _ c.loop-part.yielded_by _ _ c.in-Some.part c.in-Some.is c.next.ensures.steps in
    let more = length_push c.loop-part.yielded c.in-Some.part in
    (search (rules, c.put_into.ensures.ascending), subst (Covers g.P.Key.Key.same p.says p.has (slice_split (λ b. b == 44) bs) _) (sym more) (covers_more g.P.Key.Key.same p.says p.has (slice_split (λ b. b == 44) bs) _ _ (length c.loop-part.yielded) c.in_ok-ok_or.field-0 c.loop-part.invariant.1 (read_at p.says (slice_split (λ b. b == 44) bs) (length c.loop-part.yielded) c.in-Some.part.now c.read.result c.ok_or.result _ t.0 t.1 c.ok_or.ensures.ok_part c.in_ok-ok_or.was c.read.ensures) (search rules)))

pub returns-clause-covers : goal.returns-clause-covers
returns-clause-covers g c =
    let p = g.P.Part in
    let bs = c.args.text.now in
    let e = YieldsList-end (YieldsList-at c.into_iter-part-iterator.ensures.into_iter_gives (YieldsList-from_str_split 44 bs (lit< tt) c.split-part-items.ensures.text c.split-part-items.ensures.has_more c.split-part-items.ensures.pattern)) c.loop-part.yielded _ c.loop-part.yielded_by _ _ c.in-None.is c.next.ensures.steps in
    (slice_split (λ b. b == 44) bs, sym (join_with_byte-slice_split 44 bs), subst (Covers g.P.Key.Key.same p.says p.has (slice_split (λ b. b == 44) bs) (vec_items c.loop-part.set)) e.1 c.loop-part.invariant.1)
