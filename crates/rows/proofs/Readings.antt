-- The parts of a source's reading, by its rows.
use Rattle.std.proofs.Common.{◌≡◌, ℕ, ◌≤◌, List, map, length, get_or, take, Some, None, Option, sym, refl, ap, ◌∙◌}
use Rattle.source.specs.Questions.{script_record, lang_sys_records, no_lang_sys, lang_sys_record, no_feature, feature, params_of}
use Rattle.source.specs.Reading.{ScriptRecord, FeatureRecord}
use Rattle.source.specs.Standings.{listed}
use Rattle.source.specs.declared.parts.FeaturePlace.{FeaturePlace}
use Rattle.source.specs.declared.parts.FeaturePlace.TheVariants.{Listed, Alternate}
use Rattle.source.specs.declared.parts.Standing.TheVariants.{Absent}
use Rattle.std.proofs.lemmas.List.{take_all}
use Rattle.std.specs.List.{slice_get}
use Rattle.rows.proofs.Picks.{getD-map-nth, getD-value_by}
use Rattle.rows.proofs.Standings.{mapped-by}
use Rattle.rows.specs.Format.{ranged, value_by, feature_table, read_feature, read_feature_record, read_lang_sys_record, script_table, read_script, read_script_record}
use Rattle.rows.specs.Held.{reading_of}
use Rattle.rows.specs.Sizes.{most_rows}
use Rattle.rows.specs.declared.row.FeatureRow.{FeatureRow}
use Rattle.rows.specs.declared.row.LangSysRow.{LangSysRow}
use Rattle.rows.specs.declared.row.ScriptRow.{ScriptRow}
use Rattle.rows.specs.declared.slices.Rows.{Rows}

-- what is said of a row's table, by its range
module _ (pool : List ℕ) (ls : List LangSysRow) (s : ScriptRow) where
  pub script-records : lang_sys_records (read_script pool ls s) ≡ map (read_lang_sys_record pool) (listed (ranged ls s.first s.count))
  script-records =
      mapped-by (script_table pool ls s) lang_sys_records (λ p. map (read_lang_sys_record pool) (listed p)) refl refl (λ _. refl)
      (ranged ls s.first s.count)

module _ (pool : List ℕ) (r : FeatureRow) where
  feature-plain : params_of (read_feature pool r) ≡ Absent
  feature-plain = mapped-by feature_table params_of (λ _. Absent) refl refl (λ _. refl) (ranged pool r.first r.count)

-- the row that a record was read from

pub row_of : {X Y : Type 0} (f : X → Y) (e : Y) (xs : List X) (at : ℕ) (o : Option X) → o ≡ slice_get (take most_rows xs) at
    → value_by f e o ≡ get_or (map f (take most_rows xs)) at e
row_of f e xs at o h = sym (getD-value_by f e (take most_rows xs) at o h)

pub record_at : (v : Rows) (s : ScriptRow) (at k : ℕ) (o : Option LangSysRow)
    → read_script_record v.pool.now v.systems.now s ≡ script_record (reading_of v) at
    → o ≡ slice_get (listed (ranged v.systems.now s.first s.count)) k
    → value_by (read_lang_sys_record v.pool.now) no_lang_sys o ≡ lang_sys_record (reading_of v) at k
record_at v s at k o is h =
    sym
    (ap (λ rs. get_or rs k no_lang_sys)
    (ap (λ (t : ScriptRecord). lang_sys_records t.table) (sym is) ∙ script-records v.pool.now v.systems.now s)
    ∙ getD-value_by (read_lang_sys_record v.pool.now) no_lang_sys (listed (ranged v.systems.now s.first s.count)) k o h)

pub tables : (pool : List ℕ) (o : Option FeatureRow) → value_by (read_feature pool) Absent o ≡ (value_by (read_feature_record pool) no_feature o).table
tables pool None = refl
tables pool (Some r) = refl

plain_row : (pool : List ℕ) (o : Option FeatureRow) → params_of (value_by (read_feature pool) Absent o) ≡ Absent
plain_row pool None = refl
plain_row pool (Some r) = feature-plain pool r

-- no feature has parameters
pub plain : (v : Rows) (at : FeaturePlace) → Absent ≡ params_of (feature (reading_of v) at)
plain v (Listed i) =
    let fs = take most_rows v.features.now in
    let pool = v.pool.now in
    sym
    (ap (λ (t : FeatureRecord). params_of t.table) (getD-map-nth (read_feature_record pool) no_feature fs i)
    ∙ (ap params_of (sym (tables pool (slice_get fs i))) ∙ plain_row pool (slice_get fs i)))
plain v (Alternate w k) = refl

-- within the capacity every row is kept
pub all_taken : {X : Type 0} (xs : List X) → length xs ≤ most_rows → take most_rows xs ≡ xs
all_taken xs few = take_all most_rows xs few
