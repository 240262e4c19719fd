-- What each question of a source is answered with, as a part of the reading.
-- Past a list's end, and of a list that is not there, a part is absent, a tag is 0 and a number is none.
--   script_record, lang_sys_record, feature_record, variation_record, substitution_record    an entry of a list, by its place
--   script, lang_sys_of, feature, conditions, substitution    the table that an entry leads to
--   head, list-head, ...    what is answered of a table besides the numbers that it lists
use Rattle.std.specs.Prelude.{ℕ, List, [], length, slice_index_or}
use Rattle.source.specs.declared.parts.Standing.{Standing}
use Rattle.source.specs.declared.parts.Standing.TheVariants.{Absent, Unreadable, There}
use Rattle.source.specs.declared.parts.Condition.{Condition}
use Rattle.source.specs.declared.parts.LangSys.{LangSys}
use Rattle.source.specs.declared.parts.LangSysPlace.{LangSysPlace}
use Rattle.source.specs.declared.parts.LangSysPlace.TheVariants.{Default, Record}
use Rattle.source.specs.declared.parts.FeaturePlace.{FeaturePlace}
use Rattle.source.specs.declared.parts.FeaturePlace.TheVariants.{Listed, Alternate}
use Rattle.source.specs.declared.parts.FeatureParams.{FeatureParams}
use Rattle.source.specs.declared.parts.FeatureParams.TheVariants.{Size, StylisticSet, CharacterVariant}
use Rattle.source.specs.declared.parts.Variations.{Variations}
use Rattle.source.specs.declared.parts.Substitution.{Substitution}
use Rattle.source.specs.Standings.{listed}
use Rattle.source.specs.Reading.{LangSysTable, LangSysRecord, ScriptTable, ScriptRecord, Params, FeatureTable, FeatureRecord, SubstitutionRecord, SubstitutionTable, VariationRecord, VariationsTable, Reading}
use Rattle.source.specs.Reading.Params.{size, stylistic_set, character_variant}

-- scripts

abbrev pub no_script : ScriptRecord
no_script = record { tag = 0; table = Absent }

abbrev pub script_record : Reading → ℕ → ScriptRecord
script_record r s = slice_index_or (listed r.scripts) s no_script

abbrev pub script : Reading → ℕ → Standing ScriptTable
script r s = (script_record r s).table

-- language systems

abbrev pub no_lang_sys : LangSysRecord
no_lang_sys = record { tag = 0; table = Absent }

abbrev pub lang_sys_records : Standing ScriptTable → List LangSysRecord
lang_sys_records Absent = []
lang_sys_records Unreadable = []
lang_sys_records (There t) = t.records

abbrev pub default_of : Standing ScriptTable → Standing LangSysTable
default_of Absent = Absent
default_of Unreadable = Absent
default_of (There t) = t.default

abbrev pub lang_sys_record : Reading → ℕ → ℕ → LangSysRecord
lang_sys_record r s l = slice_index_or (lang_sys_records (script r s)) l no_lang_sys

abbrev pub lang_sys_of : Reading → LangSysPlace → Standing LangSysTable
lang_sys_of r (Default s) = default_of (script r s)
lang_sys_of r (Record s l) = (lang_sys_record r s l).table

abbrev pub lang_sys_head : LangSysTable → LangSys
lang_sys_head t = record { required = t.required; count = length t.indices }

abbrev pub indices_of : Standing LangSysTable → List ℕ
indices_of Absent = []
indices_of Unreadable = []
indices_of (There t) = t.indices

-- features

abbrev pub no_feature : FeatureRecord
no_feature = record { tag = 0; table = Absent }

abbrev pub feature_record : Reading → ℕ → FeatureRecord
feature_record r i = slice_index_or (listed r.features) i no_feature

-- variations

abbrev pub no_variation : VariationRecord
no_variation = record { conditions = Absent; substitution = Absent }

abbrev pub variation_records : Standing VariationsTable → List VariationRecord
variation_records Absent = []
variation_records Unreadable = []
variation_records (There t) = t.records

abbrev pub variation_record : Reading → ℕ → VariationRecord
variation_record r v = slice_index_or (variation_records r.variations) v no_variation

abbrev pub variations_head : VariationsTable → Variations
variations_head t = record { version = t.version; count = length t.records }

abbrev pub condition : Reading → ℕ → ℕ → Standing Condition
condition r v k = slice_index_or (listed (variation_record r v).conditions) k Absent

abbrev pub substitution_head : SubstitutionTable → Substitution
substitution_head t = record { version = t.version; count = length t.records }

abbrev pub substitution_records : Standing SubstitutionTable → List SubstitutionRecord
substitution_records Absent = []
substitution_records Unreadable = []
substitution_records (There t) = t.records

abbrev pub index_of : SubstitutionRecord → ℕ
index_of t = t.index

abbrev pub no_substitution : SubstitutionRecord
no_substitution = record { index = 0; alternate = Absent }

abbrev pub substitution_record : Reading → ℕ → ℕ → SubstitutionRecord
substitution_record r v k = slice_index_or (substitution_records (variation_record r v).substitution) k no_substitution

abbrev pub feature : Reading → FeaturePlace → Standing FeatureTable
feature r (Listed i) = (feature_record r i).table
feature r (Alternate v k) = (substitution_record r v k).alternate

abbrev pub lookups_of : Standing FeatureTable → List ℕ
lookups_of Absent = []
lookups_of Unreadable = []
lookups_of (There t) = t.lookups

abbrev pub params_of : Standing FeatureTable → Standing Params
params_of Absent = Absent
params_of Unreadable = Absent
params_of (There t) = t.params

-- what the bytes that a source lends say
abbrev pub params_meaning : FeatureParams → Params
params_meaning (Size s) = size s.now
params_meaning (StylisticSet s) = stylistic_set s.now
params_meaning (CharacterVariant s) = character_variant s.now
