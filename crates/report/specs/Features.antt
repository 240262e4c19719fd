-- The features of a reading's list.
--   feature_count r   how many there are; none where the list is not there
use Rattle.std.specs.Prelude.{ℕ, length}
use Rattle.source.specs.Reading.{Reading}
use Rattle.source.specs.Standings.{mapped, counted}

abbrev pub feature_count : Reading → ℕ
feature_count r = counted (mapped length r.features)
