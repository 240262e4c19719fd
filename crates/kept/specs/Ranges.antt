-- Indices, and ranges of them, in text.
--   index_of bs      the number that bs writes in decimal (a plus sign may stand in front)
--   Writes bs        bs writes an index, a number below 65,536
--   From a b r       r goes from a to b, which is not before a
--   Ranges bs r      bs writes the range r, which is not backward: one index, or two with `-` between them
--   InRun r n        r has the number n
--   Filled old new   new has what old has, and the numbers from `from` up to below `to`
--   Covers ps xs k   each of the first k parts writes a range whose numbers xs has, and xs has no others
use Rattle.std.specs.Prelude.{◌≡◌, ℕ, ◌+◌, ◌^◌, ◌<◌, ◌≤◌, ◌⊎◌, List, ◌∷◌, ◌++◌}
use Rattle.std.specs.Str.Parse.{IsNumeral, digits_value, without_leading_plus}
use Rattle.keys.specs.Slots.{Ascending}
use Rattle.kept.specs.Cuts.{Gains}
use Rattle.kept.specs.Cuts as cuts
use Rattle.kept.specs.declared.runs.Run.{Run}

abbrev pub index_of : List ℕ → ℕ
index_of bs = digits_value 10 (without_leading_plus bs)

abbrev pub Writes : List ℕ → Type 0
Writes bs = IsNumeral 10 (without_leading_plus bs) × (index_of bs < 2 ^ 16)

abbrev pub From : ℕ → ℕ → Run → Type 0
From a b r = (a ≤ b) × (r.first ≡ a) × (r.last ≡ b)

abbrev pub One : List ℕ → Run → Type 0
One bs r = Writes bs × From (index_of bs) (index_of bs) r

abbrev pub Both : List ℕ → List ℕ → Run → Type 0
Both a b r = Writes a × Writes b × From (index_of a) (index_of b) r

abbrev pub Two : List ℕ → Run → Type 0
Two bs r = (a : List ℕ) × (b : List ℕ) × (bs ≡ a ++ (45 ∷ b)) × Both a b r

abbrev pub Ranges : List ℕ → Run → Type 0
Ranges bs r = One bs r ⊎ Two bs r

abbrev pub InRun : Run → ℕ → Type 0
InRun r n = (r.first ≤ n) × (n < r.last + 1)

abbrev pub Ascends : List ℕ → Type 0
Ascends xs = Ascending (λ x y. x < y) xs

abbrev pub Filled : List ℕ → List ℕ → ℕ → ℕ → Type 0
Filled old new from to = Gains (λ x y. x ≡ y) old new (λ n. (from ≤ n) × (n < to))

abbrev pub Covers : List (List ℕ) → List ℕ → ℕ → Type 0
Covers ps xs k = cuts.Covers (λ x y. x ≡ y) Ranges InRun ps xs k
