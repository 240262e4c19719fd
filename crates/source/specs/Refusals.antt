-- The number of each refusal.
--   1   the source is over its size
--   2   the header is short, or its major version is not 1
--   4   more language systems are to be kept than there is room for
use Rattle.std.specs.Prelude.{ℕ}
use Rattle.source.specs.declared.refusals.Refusal.{Refusal}
use Rattle.source.specs.declared.refusals.Refusal.TheVariants.{SourceTooLarge, BadHeader, TooManyPairs}

abbrev pub number : Refusal → ℕ
number SourceTooLarge = 1
number BadHeader = 2
number TooManyPairs = 4
