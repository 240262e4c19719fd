-- How a layout table's bytes are read: OpenType, Common Layout Table Formats. Numbers are big-endian.
-- Every offset counts from the start of the table that holds it. Parts may overlap.
--   u16_at, u32_at     the number of two or four bytes at a place
--   bytes_at           some bytes from a place
--   whole              the place, if so many bytes from there lie within the table; else unreadable
--   counted            the size of a counted table: its fields end with a 16-bit count of the entries that follow
--   led                where an offset leads: absent at 0, else to a counted table, which has to lie within
--   entries            what stands at each entry of a counted table
--   NAME_layout        of a counted table, how many bytes stand before the count, and how many an entry has
-- Each NAME_at reads the table of that name at a place, so that a list can also be read from its own start, at 0.
use Rattle.std.specs.Prelude.{ℕ, ◌+◌, ◌*◌, ◌/◌, Bool, cond, ◌&&◌, List, map, length, take, drop, ◌==◌, nat_le, slice_index}
use Rattle.std.specs.List.{range_with_len}
use Rattle.source.specs.declared.parts.Standing.{Standing}
use Rattle.source.specs.declared.parts.Standing.TheVariants.{Absent, Unreadable, There}
use Rattle.source.specs.declared.parts.Condition.{Condition}
use Rattle.source.specs.declared.parts.Condition.TheVariants.{Format1, Other}
use Rattle.source.specs.declared.kinds.Kind.{Kind}
use Rattle.table.specs.declared.layouts.Layout.{Layout}
use Rattle.source.specs.Standings.{mapped}
use Rattle.source.specs.Reading.{LangSysTable, LangSysRecord, ScriptTable, ScriptRecord, Params, FeatureTable, FeatureRecord, SubstitutionRecord, SubstitutionTable, VariationRecord, VariationsTable, Reading}
use Rattle.source.specs.Reading.Params.{size, stylistic_set, character_variant}

abbrev pub u16_at : List ℕ → ℕ → ℕ
u16_at b p = slice_index b p * 256 + slice_index b (p + 1)

abbrev pub u32_at : List ℕ → ℕ → ℕ
u32_at b p = u16_at b p * 65536 + u16_at b (p + 2)

abbrev pub bytes_at : List ℕ → ℕ → ℕ → List ℕ
bytes_at b p n = take n (drop p b)

abbrev pub whole : List ℕ → ℕ → ℕ → Standing ℕ
whole b n p = cond (nat_le (p + n) (length b)) (There p) Unreadable

abbrev pub counted : List ℕ → Layout → ℕ → ℕ
counted b l p = l.head + 2 + l.width * u16_at b (p + l.head)

abbrev pub led : List ℕ → Layout → ℕ → ℕ → Standing ℕ
led b l base offset = cond (offset == 0) Absent (whole b (counted b l (base + offset)) (base + offset))

abbrev pub entry_place : Layout → ℕ → ℕ → ℕ
entry_place l p i = p + l.head + 2 + l.width * i

abbrev pub entries : {X : Type 0} → List ℕ → Layout → (ℕ → X) → ℕ → List X
entries b l f p = map (λ i. f (entry_place l p i)) (range_with_len 0 (u16_at b (p + l.head)))

-- LangSys: reserved 16, required feature 16, count 16, feature indices 16

abbrev pub lang_sys_layout : Layout
lang_sys_layout = record { head = 4; width = 2 }

abbrev pub lang_sys_at : List ℕ → ℕ → LangSysTable
lang_sys_at b p = record { required = u16_at b (p + 2); indices = entries b lang_sys_layout (u16_at b) p }

-- Script: default LangSys offset 16, count 16, then (tag 32, LangSys offset 16)

abbrev pub script_layout : Layout
script_layout = record { head = 2; width = 6 }

abbrev pub lang_sys_record_at : List ℕ → ℕ → ℕ → LangSysRecord
lang_sys_record_at b p e = record { tag = u32_at b e; table = mapped (lang_sys_at b) (led b lang_sys_layout p (u16_at b (e + 4))) }

abbrev pub script_at : List ℕ → ℕ → ScriptTable
script_at b p = record { default = mapped (lang_sys_at b) (led b lang_sys_layout p (u16_at b p)); records = entries b script_layout (lang_sys_record_at b p) p }

-- ScriptList: count 16, then (tag 32, Script offset 16)

abbrev pub list_layout : Layout
list_layout = record { head = 0; width = 6 }

abbrev pub script_record_at : List ℕ → ℕ → ℕ → ScriptRecord
script_record_at b p e = record { tag = u32_at b e; table = mapped (script_at b) (led b script_layout p (u16_at b (e + 4))) }

abbrev pub script_list_at : List ℕ → ℕ → List ScriptRecord
script_list_at b p = entries b list_layout (script_record_at b p) p

-- FeatureParams, by the feature's tag: `size` has 10 bytes, `ss..` 4, and `cv..` 14, which end with a
-- 16-bit count of characters of three bytes each, which follow. Those of other tags cannot be read.

abbrev pub variant_layout : Layout
variant_layout = record { head = 12; width = 3 }

abbrev pub sized : List ℕ → (List ℕ → Params) → ℕ → ℕ → Standing Params
sized b make n p = mapped (λ q. make (bytes_at b q n)) (whole b n p)

abbrev pub params_at : List ℕ → ℕ → ℕ → Standing Params
params_at b tag p =
    cond (tag == 0x73697A65) (sized b size 10 p)
    (cond (tag / 65536 == 0x7373) (sized b stylistic_set 4 p)
    (cond (tag / 65536 == 0x6376) (sized b character_variant (counted b variant_layout p) p) Unreadable))

abbrev pub listed_params : List ℕ → ℕ → ℕ → Standing Params
listed_params b tag p = cond (u16_at b p == 0) Absent (params_at b tag (p + u16_at b p))

-- An alternate feature has no tag by which its parameters could be read.
abbrev pub alternate_params : List ℕ → ℕ → Standing Params
alternate_params b p = cond (u16_at b p == 0) Absent Unreadable

-- Feature: FeatureParams offset 16, count 16, lookup indices 16

abbrev pub feature_layout : Layout
feature_layout = record { head = 2; width = 2 }

abbrev pub feature_at : List ℕ → (ℕ → Standing Params) → ℕ → FeatureTable
feature_at b params p = record { params = params p; lookups = entries b feature_layout (u16_at b) p }

-- FeatureList: count 16, then (tag 32, Feature offset 16)

abbrev pub feature_record_at : List ℕ → ℕ → ℕ → FeatureRecord
feature_record_at b p e = record { tag = u32_at b e; table = mapped (feature_at b (listed_params b (u32_at b e))) (led b feature_layout p (u16_at b (e + 4))) }

abbrev pub feature_list_at : List ℕ → ℕ → List FeatureRecord
feature_list_at b p = entries b list_layout (feature_record_at b p) p

-- Condition: format 16; format 1 goes on with axis, minimum and maximum, 16 each. Formats 2 to 5 are
-- known by their number alone, and the rest cannot be read.

abbrev pub format_1_at : List ℕ → ℕ → Condition
format_1_at b p = Format1 (u16_at b (p + 2)) (u16_at b (p + 4)) (u16_at b (p + 6))

abbrev pub condition_by_format : List ℕ → ℕ → ℕ → Standing Condition
condition_by_format b format p =
    cond (format == 1) (mapped (format_1_at b) (whole b 8 p))
    (cond (nat_le 2 format && nat_le format 5) (There Other) Unreadable)

abbrev pub condition_at : List ℕ → ℕ → Standing Condition
condition_at b p = cond (nat_le (p + 2) (length b)) (condition_by_format b (u16_at b p) p) Unreadable

-- ConditionSet: count 16, then Condition offsets 32

abbrev pub condition_set_layout : Layout
condition_set_layout = record { head = 0; width = 4 }

abbrev pub condition_entry_at : List ℕ → ℕ → ℕ → Standing Condition
condition_entry_at b p e = cond (u32_at b e == 0) Absent (condition_at b (p + u32_at b e))

abbrev pub condition_set_at : List ℕ → ℕ → List (Standing Condition)
condition_set_at b p = entries b condition_set_layout (condition_entry_at b p) p

-- FeatureTableSubstitution: version 32, count 16, then (feature index 16, alternate Feature offset 32)

abbrev pub substitution_layout : Layout
substitution_layout = record { head = 4; width = 6 }

abbrev pub substitution_record_at : List ℕ → ℕ → ℕ → SubstitutionRecord
substitution_record_at b p e = record { index = u16_at b e; alternate = mapped (feature_at b (alternate_params b)) (led b feature_layout p (u32_at b (e + 2))) }

abbrev pub substitution_at : List ℕ → ℕ → SubstitutionTable
substitution_at b p = record { version = u32_at b p; records = entries b substitution_layout (substitution_record_at b p) p }

-- FeatureVariations: version 32, count 32, then (ConditionSet offset 32, FeatureTableSubstitution offset 32)

abbrev pub variation_record_at : List ℕ → ℕ → ℕ → VariationRecord
variation_record_at b p e = record { conditions = mapped (condition_set_at b) (led b condition_set_layout p (u32_at b e)); substitution = mapped (substitution_at b) (led b substitution_layout p (u32_at b (e + 4))) }

abbrev pub variations_size : List ℕ → ℕ → ℕ
variations_size b p = 8 + 8 * u32_at b (p + 4)

abbrev pub variations_at : List ℕ → ℕ → VariationsTable
variations_at b p = record { version = u32_at b p; records = map (λ i. variation_record_at b p (p + 8 + 8 * i)) (range_with_len 0 (u32_at b (p + 4))) }

-- The header: major version 16, minor version 16, offsets 16 of ScriptList, FeatureList and LookupList; from
-- minor version 1 on also the offset 32 of FeatureVariations.

abbrev pub script_list_place : List ℕ → Standing ℕ
script_list_place b = led b list_layout 0 (u16_at b 4)

abbrev pub feature_list_place : List ℕ → Standing ℕ
feature_list_place b = led b list_layout 0 (u16_at b 6)

abbrev pub variations_led : List ℕ → ℕ → Standing ℕ
variations_led b offset = cond (offset == 0) Absent (whole b (variations_size b offset) offset)

abbrev pub variations_place : List ℕ → Standing ℕ
variations_place b = cond (u16_at b 2 == 0) Absent (variations_led b (u32_at b 10))

abbrev pub read_table : Kind → List ℕ → Reading
read_table k b = record { kind = k; scripts = mapped (script_list_at b) (script_list_place b); features = mapped (feature_list_at b) (feature_list_place b); variations = mapped (variations_at b) (variations_place b) }

-- Which tables are taken: at most 65,535 bytes, major version 1, and every field of the header.

abbrev pub header_size : List ℕ → ℕ
header_size b = cond (u16_at b 2 == 0) 10 14

abbrev pub header_whole : List ℕ → Bool
header_whole b = nat_le 10 (length b) && (u16_at b 0 == 1 && nat_le (header_size b) (length b))
