use Rattle.std.proofs.Common.{arith}
use Rattle.std.proofs.lemmas.Bool.{both_ways}
use Rattle.serialize.proofs.Layings.{entry-places, entry-lies, piece_is}
use Rattle.serialize.proofs.tables.Serializer.piece.Goals as goal
use Rattle.serialize.proofs.tables.Serializer.piece.Goals.{then-head-counts-via-then-head-counts, then-head-counts-via-else-head-counts+then-not-lies}

pub returns-then-head-counts : goal.returns-then-head-counts
returns-then-head-counts c =
    record {
      told = λ sound.
          let e = entry-places c.args.work.now c.args.self.now _ _ _ sound.base.chain c.args.number c.if-number-counts.false in
          let l = entry-lies c.args.work.now c.args.self.now c.args.counts c.args.number sound c.if-number-counts.false in
          elim c.then-head-counts.branch [
            | then-head-counts-via-then-head-counts v ↦ absurd (omega (arith, e.0, v.if-head-counts.true))
            | then-head-counts-via-else-head-counts+then-not-lies v ↦ absurd (both_ways _ v.if-not-lies.true (v.lies.ensures.lies.1 l))
          ];
    }

pub returns : goal.returns
returns c =
    record {
      told = λ sound.
          let p = piece_is c.args.work.now c.args.self.now c.args.counts c.args.number sound c.if-number-counts.false in
          (c.if-number-counts.false, omega (arith, p.0), p.1, p.2);
    }
