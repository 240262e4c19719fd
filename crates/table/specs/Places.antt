-- Where the parts of a table lie.
--   at_entry           what is made of the entry i of the counted table at p, or d where it has no such entry
--   entry_of           the same of a table that may not be there
--   script_place, ...  where the table of that name lies, by its place in the lists above it
use Rattle.std.specs.Prelude.{ℕ, ◌+◌, ◌*◌, cond, List, nat_lt}
use Rattle.source.specs.declared.parts.Standing.{Standing}
use Rattle.source.specs.declared.parts.Standing.TheVariants.{Absent}
use Rattle.source.specs.declared.parts.LangSysPlace.{LangSysPlace}
use Rattle.source.specs.declared.parts.LangSysPlace.TheVariants.{Default, Record}
use Rattle.source.specs.declared.parts.FeaturePlace.{FeaturePlace}
use Rattle.source.specs.declared.parts.FeaturePlace.TheVariants.{Listed, Alternate}
use Rattle.source.specs.declared.parts.LangSys.{LangSys}
use Rattle.source.specs.declared.parts.Variations.{Variations}
use Rattle.source.specs.declared.parts.Substitution.{Substitution}
use Rattle.source.specs.Reading.{Params}
use Rattle.table.specs.declared.layouts.Layout.{Layout}
use Rattle.table.specs.Standings.{part_or}
use Rattle.table.specs.Format.{u16_at, u32_at, led, entry_place, list_layout, script_layout, lang_sys_layout, feature_layout, condition_set_layout, substitution_layout, script_list_place, feature_list_place, variations_place, listed_params, alternate_params}

abbrev pub at_entry : {X : Type 0} → List ℕ → Layout → ℕ → ℕ → X → (ℕ → X) → X
at_entry b l p i d f = cond (nat_lt i (u16_at b (p + l.head))) (f (entry_place l p i)) d

abbrev pub entry_of : {X : Type 0} → List ℕ → Layout → Standing ℕ → ℕ → X → (ℕ → ℕ → X) → X
entry_of b l s i d f = part_or s d (λ p. at_entry b l p i d (f p))

-- where the offset of a record (tag, offset 16) of a table of layout l leads, to a table of layout t
abbrev pub record_led : List ℕ → Layout → Standing ℕ → ℕ → Layout → Standing ℕ
record_led b l list i t = entry_of b l list i Absent (λ p e. led b t p (u16_at b (e + 4)))

abbrev pub script_place : List ℕ → ℕ → Standing ℕ
script_place b s = record_led b list_layout (script_list_place b) s script_layout

abbrev pub default_led : List ℕ → Standing ℕ → Standing ℕ
default_led b s = part_or s Absent (λ p. led b lang_sys_layout p (u16_at b p))

abbrev pub lang_sys_place : List ℕ → LangSysPlace → Standing ℕ
lang_sys_place b (Default s) = default_led b (script_place b s)
lang_sys_place b (Record s l) = record_led b script_layout (script_place b s) l lang_sys_layout

-- variations: the entries are counted by 32 bits

abbrev pub variation_of : {X : Type 0} → List ℕ → Standing ℕ → ℕ → X → (ℕ → ℕ → X) → X
variation_of b s v d f = part_or s d (λ p. cond (nat_lt v (u32_at b (p + 4))) (f p (p + 8 + 8 * v)) d)

-- where the 32-bit offset that stands `from` bytes after a variation record's start leads
abbrev pub variation_led : List ℕ → ℕ → ℕ → Layout → Standing ℕ
variation_led b v from l = variation_of b (variations_place b) v Absent (λ p e. led b l p (u32_at b (e + from)))

abbrev pub condition_set_place : List ℕ → ℕ → Standing ℕ
condition_set_place b v = variation_led b v 0 condition_set_layout

abbrev pub substitution_place : List ℕ → ℕ → Standing ℕ
substitution_place b v = variation_led b v 4 substitution_layout

abbrev pub alternate_place : List ℕ → Standing ℕ → ℕ → Standing ℕ
alternate_place b list k = entry_of b substitution_layout list k Absent (λ p e. led b feature_layout p (u32_at b (e + 2)))

abbrev pub feature_place : List ℕ → FeaturePlace → Standing ℕ
feature_place b (Listed i) = record_led b list_layout (feature_list_place b) i feature_layout
feature_place b (Alternate v k) = alternate_place b (substitution_place b v) k

-- how the parameters of a feature are read, at its place
abbrev pub feature_params : List ℕ → FeaturePlace → ℕ → Standing Params
feature_params b (Listed i) = listed_params b (entry_of b list_layout (feature_list_place b) i 0 (λ p e. u32_at b e))
feature_params b (Alternate v k) = alternate_params b

abbrev pub params_of_place : List ℕ → FeaturePlace → Standing ℕ → Standing Params
params_of_place b at s = part_or s Absent (feature_params b at)

-- the fields that stand at a place

abbrev pub lang_sys_fields : List ℕ → ℕ → LangSys
lang_sys_fields b p = record { required = u16_at b (p + 2); count = u16_at b (p + 4) }

abbrev pub variations_fields : List ℕ → ℕ → Variations
variations_fields b p = record { version = u32_at b p; count = u32_at b (p + 4) }

abbrev pub substitution_fields : List ℕ → ℕ → Substitution
substitution_fields b p = record { version = u32_at b p; count = u16_at b (p + 4) }
