use Rattle.std.proofs.Common.{⊎_elim, arith}
use Rattle.serialize.proofs.Layings.{linked-at, entry_of}
use Rattle.serialize.proofs.tables.Serializer.object_short.Goals as goal

pub returns-then-first-last : goal.returns-then-first-last
returns-then-first-last c =
    record { short = λ w k sound packed. let e = (entry_of w c.args.self.now k c.args.i sound packed).0 in absurd (⊎_elim (λ a. omega (arith, e.link_size)) (λ a. omega (arith, e.link_high)) c.then-first-last.either) }

pub returns : goal.returns
returns c =
    record { short = λ w k sound packed. c.short.ensures.short w k _ sound packed (linked-at w c.args.self.now _ c.args.i sound.base.linked packed) }
