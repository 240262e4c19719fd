-- The order of language system positions.
--     PairBefore x y      x has the lower script, or the same script and the lower language system
--     PairSame x y        both positions are equal
use Rattle.std.specs.Prelude.{◌≡◌, ◌<◌, ◌⊎◌}
use Rattle.keys.specs.declared.pairs.Pair.{Pair}

abbrev pub PairBefore : Pair → Pair → Type 0
PairBefore x y = (x.script < y.script) ⊎ ((x.script ≡ y.script) × (x.lang_sys < y.lang_sys))

abbrev pub PairSame : Pair → Pair → Type 0
PairSame x y = (x.script ≡ y.script) × (x.lang_sys ≡ y.lang_sys)
