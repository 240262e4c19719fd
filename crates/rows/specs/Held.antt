-- What a source over rows holds and says.
--   MadeOf        its kind and its four slices are these
--   reading_of    its reading. Features and scripts past the capacity, which `open` refuses, are not read
--   Opened        what `open` answers: a source that holds and says all of the rows, or the refusal
--                 where a list is over its capacity
use Rattle.std.specs.Prelude.{◌≡◌, ℕ, List, take, Ok, Err, Result}
use Rattle.source.specs.declared.kinds.Kind.{Kind}
use Rattle.source.specs.Reading.{Reading}
use Rattle.source.specs.declared.refusals.Refusal.{Refusal}
use Rattle.source.specs.declared.refusals.Refusal.TheVariants.{SourceTooLarge}
use Rattle.rows.specs.declared.row.FeatureRow.{FeatureRow}
use Rattle.rows.specs.declared.row.LangSysRow.{LangSysRow}
use Rattle.rows.specs.declared.row.ScriptRow.{ScriptRow}
use Rattle.rows.specs.declared.slices.Rows.{Rows}
use Rattle.rows.specs.Format.{read_rows}
use Rattle.rows.specs.Sizes.{most_rows, WithinCapacity}

abbrev pub MadeOf : Rows → Kind → List FeatureRow → List LangSysRow → List ScriptRow → List ℕ → Type 0
MadeOf v k fs ls ss pool =
    (v.kind ≡ k) × (v.features.now ≡ fs) × (v.systems.now ≡ ls) × (v.scripts.now ≡ ss) × (v.pool.now ≡ pool)

abbrev pub reading_of : Rows → Reading
reading_of v =
    read_rows v.kind (take most_rows v.features.now) v.systems.now (take most_rows v.scripts.now) v.pool.now

abbrev pub Opened : Kind → List FeatureRow → List LangSysRow → List ScriptRow → List ℕ → Result Rows Refusal → Type 0
Opened k fs ls ss pool (Ok v) =
    WithinCapacity fs ls ss pool × MadeOf v k fs ls ss pool × (reading_of v ≡ read_rows k fs ls ss pool)
Opened k fs ls ss pool (Err e) = (e ≡ SourceTooLarge) × (WithinCapacity fs ls ss pool → ⊥)
