use Rattle.std.proofs.Common.{⊎_elim, arith}
use Rattle.std.proofs.lemmas.Bool.{leb-true, le-leb}
use Rattle.serialize.proofs.Fielding.{takes-if, takes-some, takes-not}
use Rattle.serialize.proofs.tables.Serializer.takes.Goals as goal

pub returns-then-counts-eq0 : goal.returns-then-counts-eq0
returns-then-counts-eq0 c =
    record { takes = λ w sound. takes-not w c.args.self.now c.args.counts c.args.link sound _ (λ q. let r = takes-some w c.args.self.now c.args.counts c.args.link sound q in ⊎_elim (λ e. omega arith) (λ e. omega arith)) c.then-counts-eq0.either }

pub returns-then-end-counts : goal.returns-then-end-counts
returns-then-end-counts c =
    record { takes = λ w sound. takes-if w c.args.self.now c.args.counts c.args.link sound (omega arith) (omega arith) (omega (arith, c.size.ensures.size)) _ (λ p. omega (arith, leb-true _ _ p, c.last_end.ensures.end)) (λ q. le-leb _ _ (omega (arith, c.last_end.ensures.end))) }

pub returns-else-end-counts : goal.returns-else-end-counts
returns-else-end-counts c =
    record { takes = λ w sound. (λ e. absurd (omega (arith, leb-true _ _ e)), λ q. let r = takes-some w c.args.self.now c.args.counts c.args.link sound q in absurd (omega (arith, c.size.ensures.size))) }
