-- What rows say: their reading.
--   ranged       the elements of a range, unreadable where it leaves the list
--   numbered     the row of that number, unreadable past the rows; 65,535 is no row
--   bound        a part under a reading that has a standing of its own
--   value_by     the value under a function, or what stands for none
--   .._table     a table with these numbers or rows
--   read_..      how a row's table stands, and read_.._record with the row's tag
--   read_rows    the whole table
use Rattle.std.specs.Prelude.{ℕ, ◌+◌, cond, List, map, length, take, drop, Some, None, Option, ◌==◌, nat_le, slice_index_or}
use Rattle.source.specs.declared.kinds.Kind.{Kind}
use Rattle.source.specs.declared.parts.Standing.{Standing}
use Rattle.source.specs.declared.parts.Standing.TheVariants.{Absent, Unreadable, There}
use Rattle.source.specs.Standings.{mapped}
use Rattle.source.specs.Reading.{LangSysTable, LangSysRecord, ScriptTable, ScriptRecord, FeatureTable, FeatureRecord, Reading}
use Rattle.rows.specs.declared.row.FeatureRow.{FeatureRow}
use Rattle.rows.specs.declared.row.LangSysRow.{LangSysRow}
use Rattle.rows.specs.declared.row.ScriptRow.{ScriptRow}

abbrev pub ranged : {X : Type 0} → List X → ℕ → ℕ → Standing (List X)
ranged xs first count = cond (nat_le (first + count) (length xs)) (There (take count (drop first xs))) Unreadable

abbrev pub bound : {X Y : Type 0} → (X → Standing Y) → Standing X → Standing Y
bound f Absent = Absent
bound f Unreadable = Unreadable
bound f (There x) = f x

abbrev pub value_by : {X Y : Type 0} → (X → Y) → Y → Option X → Y
value_by f d None = d
value_by f d (Some x) = f x

abbrev pub feature_table : List ℕ → FeatureTable
feature_table ns = record { params = Absent; lookups = ns }

abbrev pub read_feature : List ℕ → FeatureRow → Standing FeatureTable
read_feature pool r = mapped feature_table (ranged pool r.first r.count)

abbrev pub read_feature_record : List ℕ → FeatureRow → FeatureRecord
read_feature_record pool r = record { tag = r.tag.code; table = read_feature pool r }

abbrev pub lang_sys_table : LangSysRow → List ℕ → LangSysTable
lang_sys_table r ns = record { required = r.required; indices = ns }

abbrev pub read_lang_sys : List ℕ → LangSysRow → Standing LangSysTable
read_lang_sys pool r = mapped (lang_sys_table r) (ranged pool r.first r.count)

abbrev pub read_lang_sys_record : List ℕ → LangSysRow → LangSysRecord
read_lang_sys_record pool r = record { tag = r.tag.code; table = read_lang_sys pool r }

abbrev pub numbered : {X : Type 0} → List X → ℕ → Standing X
numbered xs n = cond (n == 65535) Absent (slice_index_or (map There xs) n Unreadable)

abbrev pub script_table : List ℕ → List LangSysRow → ScriptRow → List LangSysRow → ScriptTable
script_table pool ls s rs =
    record { default = bound (read_lang_sys pool) (numbered ls s.default); records = map (read_lang_sys_record pool) rs }

abbrev pub read_script : List ℕ → List LangSysRow → ScriptRow → Standing ScriptTable
read_script pool ls s = mapped (script_table pool ls s) (ranged ls s.first s.count)

abbrev pub read_script_record : List ℕ → List LangSysRow → ScriptRow → ScriptRecord
read_script_record pool ls s = record { tag = s.tag.code; table = read_script pool ls s }

abbrev pub read_rows : Kind → List FeatureRow → List LangSysRow → List ScriptRow → List ℕ → Reading
read_rows k fs ls ss pool =
    record {
      kind = k;
      scripts = There (map (read_script_record pool ls) ss);
      features = There (map (read_feature_record pool) fs);
      variations = Absent;
    }
