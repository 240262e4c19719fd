-- What is written of a feature, in ASCII.
--   feature_text r i   the index and the tag of a feature in the reading r, or that the list has no such feature
use Rattle.std.specs.Prelude.{ℕ, cond, List, ◌++◌, length, codes, decimal, nat_lt}
use Rattle.source.specs.Reading.{Reading}
use Rattle.source.specs.Standings.{mapped, counted}
use Rattle.source.specs.Questions.{feature_record}
use Rattle.keys.specs.Texts.{tag_text}

abbrev pub feature_text : Reading → ℕ → List ℕ
feature_text r i =
    cond (nat_lt i (counted (mapped length r.features))) (decimal i ++ (codes " " ++ tag_text (feature_record r i).tag))
    (decimal i ++ codes " no such feature")
