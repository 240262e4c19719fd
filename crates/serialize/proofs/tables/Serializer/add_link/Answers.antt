use Rattle.std.proofs.Common.{arith}
use Rattle.serialize.proofs.Fielding.{links}
use Rattle.serialize.proofs.Reading.{links-grafted}
use Rattle.serialize.proofs.tables.Serializer.add_link.Goals as goal

pub takes-requires : goal.takes-requires
takes-requires c = record { links = omega arith; frames = omega arith }

pub returns : goal.returns
returns c =
    let s = c.args.self.now in
    let k = c.args.counts.now in
    record {
      added = λ w sound. links w s k c.args.link sound (omega arith) ((c.takes.ensures.takes w sound).0 c.if-not-takes.false);
      grafted = λ w sound. links-grafted w s _ k _ c.args.link sound (links w s k c.args.link sound (omega arith) ((c.takes.ensures.takes w sound).0 c.if-not-takes.false));
    }
