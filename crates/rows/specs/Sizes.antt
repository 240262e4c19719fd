-- How much a source over rows may hold.
--   most_rows, most_numbers    the capacities
--   WithinCapacity             each list is within its capacity
use Rattle.std.specs.Prelude.{ℕ, ◌≤◌, List, length}
use Rattle.rows.specs.declared.row.FeatureRow.{FeatureRow}
use Rattle.rows.specs.declared.row.LangSysRow.{LangSysRow}
use Rattle.rows.specs.declared.row.ScriptRow.{ScriptRow}

abbrev pub most_rows : ℕ
most_rows = 4096

abbrev pub most_numbers : ℕ
most_numbers = 32768

abbrev pub WithinCapacity : List FeatureRow → List LangSysRow → List ScriptRow → List ℕ → Type 0
WithinCapacity fs ls ss ns =
    (length fs ≤ most_rows) × (length ls ≤ most_rows) × (length ss ≤ most_rows) × (length ns ≤ most_numbers)
