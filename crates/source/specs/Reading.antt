-- What a layout table says: its reading, with every field but offsets and reserved ones.
-- Tags, versions, indices and the ends of a condition are the numbers that stand in the table.
use Rattle.std.specs.Prelude.{ℕ, List}
use Rattle.source.specs.declared.parts.Standing.{Standing}
use Rattle.source.specs.declared.parts.Condition.{Condition}
use Rattle.source.specs.declared.kinds.Kind.{Kind}

pub record LangSysTable : Type 0 where
  pub required : ℕ
  pub indices : List ℕ

pub record LangSysRecord : Type 0 where
  pub tag : ℕ
  pub table : Standing LangSysTable

pub record ScriptTable : Type 0 where
  pub default : Standing LangSysTable
  pub records : List LangSysRecord

pub record ScriptRecord : Type 0 where
  pub tag : ℕ
  pub table : Standing ScriptTable

-- the bytes of a feature's parameters, by their kind
pub data Params : Type 0 where
  size : List ℕ → Params
  stylistic_set : List ℕ → Params
  character_variant : List ℕ → Params

pub record FeatureTable : Type 0 where
  pub params : Standing Params
  pub lookups : List ℕ

pub record FeatureRecord : Type 0 where
  pub tag : ℕ
  pub table : Standing FeatureTable

pub record SubstitutionRecord : Type 0 where
  pub index : ℕ
  pub alternate : Standing FeatureTable

pub record SubstitutionTable : Type 0 where
  pub version : ℕ
  pub records : List SubstitutionRecord

pub record VariationRecord : Type 0 where
  pub conditions : Standing (List (Standing Condition))
  pub substitution : Standing SubstitutionTable

pub record VariationsTable : Type 0 where
  pub version : ℕ
  pub records : List VariationRecord

pub record Reading : Type 0 where
  pub kind : Kind
  pub scripts : Standing (List ScriptRecord)
  pub features : Standing (List FeatureRecord)
  pub variations : Standing VariationsTable
