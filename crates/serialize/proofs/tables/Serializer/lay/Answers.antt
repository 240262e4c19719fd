use Rattle.std.proofs.Common.{refl, inr, arith}
use Rattle.serialize.specs.Tables.{Sound}
use Rattle.serialize.proofs.Layings.{total}
use Rattle.serialize.proofs.Reading.{lays-read}
use Rattle.serialize.proofs.tables.Serializer.lay.Goals as goal

pub returns-then-out-size : goal.returns-then-out-size
returns-then-out-size c =
    record {
      laid = λ sound. let t = total c.args.work.now c.args.self.now _ _ _ sound.base.chain in
          (refl, inr (refl, (c.all_short.ensures.short _ sound).0 c.if-not-all_short.false, omega (arith, t, c.min-end.ensures, c.if-out-size.true)));
      read = λ sound. tt;
    }

pub returns : goal.returns
returns c =
    let h = λ (sound : Sound c.args.work.now c.args.self.now c.args.counts). lays-read c.args.work.now c.args.self.now c.args.counts c.args.out.now c.lay_all.new.out _ sound ((c.all_short.ensures.short _ sound).0 c.if-not-all_short.false) (omega (arith, c.min-end.ensures)) (omega (arith, c.if-out-size.false)) (c.lay_all.ensures.laid sound) in
    record { laid = λ sound. (h sound).0; read = λ sound. (h sound).1 }
