-- What the second sample says.
--   tagged     the number of a tag, from its four bytes
use Rattle.std.specs.Prelude.{ℕ, ◌+◌, ◌*◌, List, [], ◌∷◌, codes, fold}
use Rattle.source.specs.declared.kinds.Kind.TheVariants.{Gpos}
use Rattle.source.specs.declared.parts.Condition.TheVariants.{Format1, Other}
use Rattle.source.specs.declared.parts.Standing.TheVariants.{Absent, Unreadable, There}
use Rattle.source.specs.Reading.{ScriptRecord, FeatureRecord, VariationRecord, Reading}
use Rattle.source.specs.Reading.Params.{size, stylistic_set, character_variant}

abbrev pub tagged : List ℕ → ℕ
tagged = fold (λ n b. n * 256 + b) 0

-- an empty script, one with every standing of a record, one absent and one past the end
abbrev scripts_read : List ScriptRecord
scripts_read =
    record { tag = tagged (codes "DFLT"); table = There (record { default = Absent; records = [] }) }
    ∷ record {
      tag = tagged (codes "latn");
      table =
          There
          (record {
            default = There (record { required = 1; indices = 0 ∷ [] });
            records =
                record { tag = tagged (codes "ROM "); table = There (record { required = 65535; indices = 2 ∷ [] }) }
                ∷ record { tag = tagged (codes "TRK "); table = Absent }
                ∷ record { tag = tagged (codes "XYZ "); table = Unreadable }
                ∷ [];
          });
    }
    ∷ record { tag = tagged (codes "cyrl"); table = Absent }
    ∷ record { tag = tagged (codes "grek"); table = Unreadable }
    ∷ []

-- parameters of the three kinds and of a tag that has none, a feature that is absent and one past the end
abbrev features_read : List FeatureRecord
features_read =
    record {
      tag = tagged (codes "size");
      table = There (record { params = There (size (0 ∷ 100 ∷ 0 ∷ 1 ∷ 1 ∷ 0 ∷ 0 ∷ 80 ∷ 0 ∷ 144 ∷ [])); lookups = 0 ∷ [] });
    }
    ∷ record {
      tag = tagged (codes "ss01");
      table = There (record { params = There (stylistic_set (0 ∷ 0 ∷ 1 ∷ 2 ∷ [])); lookups = 1 ∷ [] });
    }
    ∷ record {
      tag = tagged (codes "cv01");
      table =
          There
          (record {
            params =
                There
                (character_variant
                (0 ∷ 0 ∷ 1 ∷ 3 ∷ 1 ∷ 4 ∷ 1 ∷ 5 ∷ 0 ∷ 1 ∷ 1 ∷ 6 ∷ 0 ∷ 2 ∷ 0 ∷ 0 ∷ 65 ∷ 1 ∷ 246 ∷ 0 ∷ []));
            lookups = [];
          });
    }
    ∷ record { tag = tagged (codes "kern"); table = There (record { params = Unreadable; lookups = 0 ∷ 1 ∷ [] }) }
    ∷ record { tag = tagged (codes "mark"); table = Absent }
    ∷ record { tag = tagged (codes "mkmk"); table = Unreadable }
    ∷ []

-- a record with every standing of a condition and of an alternate, one with neither, and one past the end
abbrev variations_read : List VariationRecord
variations_read =
    record {
      conditions = There (There (Format1 0 49152 16384) ∷ There Other ∷ Unreadable ∷ Absent ∷ Unreadable ∷ []);
      substitution =
          There
          (record {
            version = 65536;
            records =
                record { index = 0; alternate = There (record { params = Absent; lookups = 3 ∷ [] }) }
                ∷ record { index = 1; alternate = Absent }
                ∷ record { index = 2; alternate = There (record { params = Unreadable; lookups = [] }) }
                ∷ record { index = 3; alternate = Unreadable }
                ∷ [];
          });
    }
    ∷ record { conditions = Absent; substitution = Absent }
    ∷ record { conditions = Unreadable; substitution = Unreadable }
    ∷ []

abbrev pub varied_reading : Reading
varied_reading =
    record {
      kind = Gpos;
      scripts = There scripts_read;
      features = There features_read;
      variations = There (record { version = 65536; records = variations_read });
    }
