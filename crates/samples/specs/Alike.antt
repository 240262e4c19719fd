-- What the fonts over rows say, each of them with the script `latn` alone.
--   system, feature    a language system that requires no feature, and a feature, with these numbers
--   in_latin           a table with these features, and `latn` with this default and these records
--   apart_reading      three features that are alike, of which no language system names the first
--   swapped_reading    two features with the same lookups in two orders
--   trimmed_reading    two features that differ in their second lookups
--   Says               rows were opened, and they say this
use Rattle.std.specs.Prelude.{◌≡◌, ℕ, List, [], ◌∷◌, codes, Result, MatchResult}
use Rattle.source.specs.declared.kinds.Kind.TheVariants.{Gsub}
use Rattle.source.specs.declared.parts.Standing.TheVariants.{Absent, There}
use Rattle.source.specs.declared.refusals.Refusal.{Refusal}
use Rattle.source.specs.Reading.{LangSysTable, LangSysRecord, FeatureRecord, Reading}
use Rattle.rows.specs.declared.slices.Rows.{Rows}
use Rattle.rows.specs.Held.{reading_of}
use Rattle.samples.specs.Varied.{tagged}

abbrev pub system : List ℕ → LangSysTable
system ns = record { required = 65535; indices = ns }

abbrev feature : List ℕ → List ℕ → FeatureRecord
feature tag ns = record { tag = tagged tag; table = There (record { params = Absent; lookups = ns }) }

abbrev in_latin : List FeatureRecord → LangSysTable → List LangSysRecord → Reading
in_latin fs d rs =
    record {
      kind = Gsub;
      scripts = There (record { tag = tagged (codes "latn"); table = There (record { default = There d; records = rs }) } ∷ []);
      features = There fs;
      variations = Absent;
    }

abbrev pub apart_reading : Reading
apart_reading =
    in_latin
    (feature (codes "liga") (0 ∷ [])
    ∷ feature (codes "locl") (1 ∷ [])
    ∷ feature (codes "locl") (1 ∷ [])
    ∷ feature (codes "locl") (1 ∷ [])
    ∷ [])
    (system (0 ∷ []))
    (record { tag = tagged (codes "ROM "); table = There (system (2 ∷ [])) }
    ∷ record { tag = tagged (codes "TRK "); table = There (system (3 ∷ [])) }
    ∷ [])

abbrev pub swapped_reading : Reading
swapped_reading =
    in_latin (feature (codes "locl") (0 ∷ 1 ∷ []) ∷ feature (codes "locl") (1 ∷ 0 ∷ []) ∷ []) (system (0 ∷ 1 ∷ [])) []

abbrev pub trimmed_reading : Reading
trimmed_reading =
    in_latin (feature (codes "locl") (0 ∷ 5 ∷ []) ∷ feature (codes "locl") (0 ∷ 9 ∷ []) ∷ []) (system (0 ∷ 1 ∷ [])) []

abbrev pub Says : Reading → Result Rows Refusal → Type 0
Says x r = MatchResult r (λ v. reading_of v ≡ x) (λ _. ⊥)
