use Rattle.std.proofs.Common.{◌≡◌, arith}
use Rattle.std.proofs.lemmas.Bool.{both_ways}
use Rattle.serialize.specs.Tables.{Sound}
use Rattle.serialize.proofs.Packings.{top-at, sound-over, full, packs-shared-to, packs-settled}
use Rattle.serialize.proofs.Reading.{packs-planted}
use Rattle.serialize.proofs.Keeps.{counts_same}
use Rattle.serialize.proofs.tables.Serializer.pop_pack.Goals as goal

pub returns-then-not-over : goal.returns-then-not-over
returns-then-not-over c =
    record { packed = λ sound e. absurd (both_ways _ c.if-not-over.true (c.over.ensures.over.1 (sound-over c.args.work.now c.args.self.now c.args.counts.now sound c.args.token.level c.args.token.ok.0 e))); planted = λ sound e. tt }

pub mark-mark-requires : goal.mark-mark-requires
mark-mark-requires c = record { over = c.over.ensures.over.0 c.if-not-over.false }

pub find-requires : goal.find-requires
find-requires c = record { over = c.over.ensures.over.0 c.if-not-over.false }

pub settle-requires : goal.settle-requires
settle-requires c = record { over = c.over.ensures.over.0 c.if-not-over.false; room = omega arith }

pub returns-in-Some : goal.returns-in-Some
returns-in-Some c =
    let h = λ (sound : Sound c.args.work.now c.args.self.now c.args.counts.now) (e : c.args.token.level ≡ c.args.counts.now.depth). packs-shared-to c.args.work.now c.args.self.now c.args.counts.now _ _ _ sound (top-at c.args.work.now c.args.self.now c.args.counts.now sound c.args.token.level c.args.token.ok.0 e) (c.in-Some.ensures.found sound c.mark-mark.ensures.hashed) (counts_same _ _ (omega arith) (omega arith) (omega arith) (omega arith) (omega arith) (omega arith)) in
    record { packed = h; planted = λ sound e. packs-planted _ _ _ _ _ _ _ (h sound e) }

pub returns-then-grown-ge2048 : goal.returns-then-grown-ge2048
returns-then-grown-ge2048 c =
    record { packed = λ sound e. full c.args.work.now c.args.self.now c.args.counts.now sound c.args.token.level c.args.token.ok.0 e c.if-grown-ge2048.true (c.in_default.ensures.found sound c.mark-mark.ensures.hashed); planted = λ sound e. tt }

pub returns : goal.returns
returns c =
    let h = λ (sound : Sound c.args.work.now c.args.self.now c.args.counts.now) (e : c.args.token.level ≡ c.args.counts.now.depth). packs-settled c.args.work.now _ c.args.self.now _ c.args.counts.now _ _ c.mark-mark.result sound (top-at c.args.work.now c.args.self.now c.args.counts.now sound c.args.token.level c.args.token.ok.0 e) (c.in_default.ensures.found sound c.mark-mark.ensures.hashed) c.if-grown-ge2048.false c.mark-mark.ensures.hashed c.settle.ensures.work c.settle.ensures.tables c.settle.ensures.counts in
    record { packed = h; planted = λ sound e. packs-planted _ _ _ _ _ _ _ (h sound e) }
