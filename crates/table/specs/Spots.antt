-- Where a table that was found lies.
--   spot               a place in some bytes
--   placed             places in some bytes, as spots
--   spots              how a counted table stands, with where it lies
--   variations_spots   the same of a variation list
--   found              what is made of a table that is there, by its bytes and its place, or d
use Rattle.std.specs.Prelude.{ℕ, List, Option}
use Rattle.std.specs.Option.{option_map}
use Rattle.source.specs.declared.parts.Standing.{Standing}
use Rattle.source.specs.Standings.{mapped}
use Rattle.table.specs.declared.counted.Counted.{Counted}
use Rattle.table.specs.declared.place.Place.{Place}
use Rattle.table.specs.declared.variations.VariationList.{VariationList}
use Rattle.table.specs.Standings.{part_or}

pub record Spot : Type 0 where
  pub bytes : List ℕ
  pub at : ℕ

abbrev pub spot : List ℕ → ℕ → Spot
spot b p = record { bytes = b; at = p }

abbrev pub placed : List ℕ → Standing ℕ → Standing Spot
placed b s = mapped (spot b) s

abbrev pub spots : {P : _} {g : _} → Standing (Counted P g) → Standing Spot
spots s = mapped (λ c. spot c.bytes.now c.at) s

abbrev pub variations_spots : Standing VariationList → Standing Spot
variations_spots s = mapped (λ v. spot v.bytes.now v.at) s

abbrev pub found : {X : Type 0} → Standing Spot → X → (List ℕ → ℕ → X) → X
found s d f = part_or s d (λ t. f t.bytes t.at)

abbrev pub place_spot : Place → Spot
place_spot p = spot p.bytes.now p.at

abbrev pub entry_spot : Option Place → Option Spot
entry_spot e = option_map place_spot e
