use Rattle.std.proofs.Common.{ℕ, List, sym, ap, ◌∙◌, arith, below_more}
use Rattle.std.proofs.lemmas.Bool.{both_ways}
use Rattle.serialize.specs.declared.tables.Serializer.{Serializer}
use Rattle.serialize.specs.Tables.{hash_of, Entry}
use Rattle.serialize.proofs.Pools.{entry_in, absent-from, stands_from}
use Rattle.serialize.proofs.tables.Serializer.find.Goals as goal
use Rattle.serialize.proofs.tables.Serializer.find.Goals.{else-self-i-via-then-self-i+else-equals, else-self-i-via-else-self-i}

abbrev entry-from : {w : List ℕ} {s : Serializer} {i : ℕ} (h l : ℕ) → Entry w s h l i → Entry w s 0 0 i
entry-from h l e = record { low = omega arith; size = e.size; high = e.high; link_low = omega arith; link_size = e.link_size; link_high = e.link_high; hashed = e.hashed }

pub returns-then-equals : goal.returns-then-equals
returns-then-equals c =
    let w = c.args.work.now in
    let s = c.args.self.now in
    record {
      found = λ sound hashed. let e = entry_in w s _ _ _ c.loop-i.i sound.base.chain c.loop-i-test.true in
          stands_from w s c.args.counts.objects _ c.loop-i.i c.loop-i-test.true ((c.equals.ensures.same (entry-from _ _ e)).0 c.if-equals.true);
    }

pub returns : goal.returns
returns c =
    let w = c.args.work.now in
    let s = c.args.self.now in
    record { found = λ sound hashed. absent-from w s c.args.counts.objects _ (λ k lt. c.loop-i.invariant hashed k (omega arith) (entry-from _ _ (entry_in w s _ _ _ k sound.base.chain lt))) }

pub loop-i-preserved : goal.loop-i-preserved
loop-i-preserved c = λ hashed.
    below_more _ _ (c.loop-i.invariant hashed)
    (λ e p.
    elim c.else-self-i.branch [
      | else-self-i-via-then-self-i+else-equals v ↦ both_ways _ v.if-equals.false ((v.equals.ensures.same e).1 p)
      | else-self-i-via-else-self-i v ↦ v.if-self-i.false (e.hashed ∙ ap hash_of p ∙ sym hashed)
    ])
