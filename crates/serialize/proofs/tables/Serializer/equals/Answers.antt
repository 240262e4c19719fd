use Rattle.std.proofs.lemmas.Bool.Decides.{Decides-eqb}
use Rattle.std.proofs.lemmas.Slice.Eq.{slice_eq-Decides}
use Rattle.serialize.proofs.Equality.{links-decide, object-decides}
use Rattle.serialize.proofs.tables.Serializer.equals.Goals as goal

pub returns-then-eq : goal.returns-then-eq
returns-then-eq c =
    record { same = λ e. object-decides _ _ _ ((slice_eq-Decides Decides-eqb _ _ _ c.eq.ensures).0 c.if-eq.true) _ (links-decide _ _ _ c.eq-then-eq.ensures) }
