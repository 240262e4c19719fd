-- What the built-in font says.
--   tagged             the number of a tag, from its four bytes
--   system, feature    a language system that requires no feature, and a feature, with these numbers
use Rattle.std.specs.Prelude.{ℕ, ◌+◌, ◌*◌, List, [], ◌∷◌, codes, fold}
use Rattle.source.specs.declared.kinds.Kind.TheVariants.{Gsub}
use Rattle.source.specs.declared.parts.Standing.{Standing}
use Rattle.source.specs.declared.parts.Standing.TheVariants.{Absent, There}
use Rattle.source.specs.Reading.{LangSysTable, ScriptRecord, FeatureRecord, Reading}

abbrev tagged : List ℕ → ℕ
tagged = fold (λ n b. n * 256 + b) 0

abbrev system : List ℕ → Standing LangSysTable
system ns = There (record { required = 65535; indices = ns })

abbrev feature : List ℕ → List ℕ → FeatureRecord
feature tag ns = record { tag = tagged tag; table = There (record { params = Absent; lookups = ns }) }

abbrev latin : ScriptRecord
latin =
    record {
      tag = tagged (codes "latn");
      table =
          There
          (record {
            default = system (0 ∷ 1 ∷ []);
            records =
                record { tag = tagged (codes "ROM "); table = system (0 ∷ 2 ∷ []) }
                ∷ record { tag = tagged (codes "TRK "); table = system (2 ∷ 4 ∷ []) }
                ∷ [];
          });
    }

abbrev pub builtin_reading : Reading
builtin_reading =
    record {
      kind = Gsub;
      scripts = There (latin ∷ []);
      features =
          There
          (feature (codes "liga") (0 ∷ [])
          ∷ feature (codes "locl") (1 ∷ [])
          ∷ feature (codes "locl") (1 ∷ 3 ∷ [])
          ∷ feature (codes "locl") (2 ∷ [])
          ∷ feature (codes "pref") []
          ∷ []);
      variations = Absent;
    }
