-- The numbering of a reading r under kept lookups ls and features fs, where the script `latn` is kept.
--   latn_retained    the indices that are retained
--   latn_numbers     their numbers
--   latn_own         how many numbers there are
--   latn_pairs       the language systems that are kept
use Rattle.std.specs.Prelude.{ℕ, List, [], ◌∷◌, map, length}
use Rattle.keys.specs.declared.pairs.Pair.{Pair}
use Rattle.source.specs.Reading.{Reading}
use Rattle.numbering.specs.Numbers.{number, owners}
use Rattle.numbering.specs.Numbering.{first_alike, the_walk, the_retained}

abbrev latn : List ℕ
latn = 0x6C61746E ∷ []

abbrev pub latn_retained : Reading → List ℕ → List ℕ → List ℕ
latn_retained r ls fs = the_retained r ls fs latn

abbrev pub latn_numbers : Reading → List ℕ → List ℕ → List ℕ
latn_numbers r ls fs = map (number (latn_retained r ls fs) (first_alike r ls fs)) (latn_retained r ls fs)

abbrev pub latn_own : Reading → List ℕ → List ℕ → ℕ
latn_own r ls fs = length (owners (latn_retained r ls fs) (first_alike r ls fs))

abbrev pub latn_pairs : Reading → List ℕ → List ℕ → List Pair
latn_pairs r ls fs = (the_walk r ls fs latn).pairs
