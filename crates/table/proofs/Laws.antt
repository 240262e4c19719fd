-- What the reading of a table says is what stands at the places that the steps from part to part lead to.
use Rattle.std.proofs.Common.{◌≡◌, ℕ, ◌+◌, ◌*◌, List, map, length, get_or, Some, None, sym, refl, ap, ◌∙◌, add-zero}
use mathlib.Core.List.{map-map}
use Rattle.std.specs.List.{slice_get, range_with_len}
use Rattle.std.proofs.lemmas.List.FromFn.{length-map-range_with_len}
use Rattle.source.specs.declared.parts.Standing.{Standing}
use Rattle.source.specs.declared.parts.Standing.TheVariants.{Absent, Unreadable, There}
use Rattle.source.specs.declared.kinds.Kind.{Kind}
use Rattle.source.specs.declared.kinds.Kind.TheVariants.{Gsub}
use Rattle.source.specs.declared.parts.LangSysPlace.{LangSysPlace}
use Rattle.source.specs.declared.parts.LangSysPlace.TheVariants.{Default, Record}
use Rattle.source.specs.declared.parts.FeaturePlace.{FeaturePlace}
use Rattle.source.specs.declared.parts.FeaturePlace.TheVariants.{Listed, Alternate}
use Rattle.source.specs.Reading.{Reading}
use Rattle.source.specs.Standings.{mapped, listed}
use Rattle.source.specs.Questions.{no_script, script_record, script, no_lang_sys, lang_sys_records, lang_sys_record, default_of, lang_sys_of, lang_sys_head, indices_of, no_feature, feature_record, variation_record, no_variation, condition, feature, lookups_of, params_of, no_substitution, substitution_records, substitution_head, variations_head, index_of}
use Rattle.table.specs.Format.{u16_at, u32_at, list_layout, script_layout, lang_sys_layout, feature_layout, condition_set_layout, substitution_layout, led, lang_sys_at, lang_sys_record_at, script_at, script_record_at, script_list_at, script_list_place, listed_params, alternate_params, feature_at, feature_list_at, feature_record_at, feature_list_place, condition_entry_at, condition_set_at, substitution_record_at, substitution_at, variation_record_at, variations_at, variations_place, read_table}
use Rattle.table.specs.Places.{entry_of, script_place, default_led, lang_sys_place, condition_set_place, substitution_place, feature_place, feature_params, params_of_place, lang_sys_fields, variations_fields, substitution_fields}
use Rattle.table.proofs.Entries.{getD-entry, field-entry, nth-entry, entry-map, mapped-mapped, variation-map, variation-entry, variation-same, entry-by}

-- a list of records (tag, offset) that lead to tables

default-law : (b : List ℕ) (s : Standing ℕ) → default_of (mapped (script_at b) s) ≡ mapped (lang_sys_at b) (default_led b s)
default-law b Absent = refl
default-law b Unreadable = refl
default-law b (There p) = refl

params-place : (b : List ℕ) (at : FeaturePlace) (s : Standing ℕ) → params_of (mapped (feature_at b (feature_params b at)) s) ≡ params_of_place b at s
params-place b at Absent = refl
params-place b at Unreadable = refl
params-place b at (There p) = refl

-- The reading of bytes as GSUB. Laws of parts that the kind has no say in speak of it.
abbrev reading_of : List ℕ → Reading
reading_of b = read_table Gsub b

module _ (b : List ℕ) where
  pub script_tag_law : (s : ℕ) → (script_record (reading_of b) s).tag ≡ entry_of b list_layout (script_list_place b) s 0 (λ p e. u32_at b e)
  script_tag_law s = field-entry b list_layout (script_list_at b) listed (script_record_at b) refl refl (λ p. refl) (λ r. r.tag) (script_list_place b) s no_script

  pub script_law : (s : ℕ) → script (reading_of b) s ≡ mapped (script_at b) (script_place b s)
  script_law s =
      field-entry b list_layout (script_list_at b) listed (script_record_at b) refl refl (λ p. refl) (λ r. r.table) (script_list_place b) s no_script ∙
      sym (entry-map (mapped (script_at b)) b list_layout (script_list_place b) s Absent (λ p e. led b script_layout p (u16_at b (e + 4))))

  pub lang_sys_of_tag_law : (s l : ℕ) → (lang_sys_record (reading_of b) s l).tag ≡ entry_of b script_layout (script_place b s) l 0 (λ p e. u32_at b e)
  lang_sys_of_tag_law s l =
      ap (λ t. (get_or (lang_sys_records t) l no_lang_sys).tag) (script_law s) ∙
      field-entry b script_layout (script_at b) lang_sys_records (lang_sys_record_at b) refl refl (λ p. refl) (λ r. r.tag) (script_place b s) l no_lang_sys

  pub lang_sys_of_law : (k : Kind) (at : LangSysPlace) → lang_sys_of (read_table k b) at ≡ mapped (lang_sys_at b) (lang_sys_place b at)
  lang_sys_of_law k (Default s) = ap default_of (script_law s) ∙ default-law b (script_place b s)
  lang_sys_of_law k (Record s l) =
      ap (λ t. (get_or (lang_sys_records t) l no_lang_sys).table) (script_law s) ∙
      (field-entry b script_layout (script_at b) lang_sys_records (lang_sys_record_at b) refl refl (λ p. refl) (λ r. r.table) (script_place b s) l no_lang_sys ∙
      sym (entry-map (mapped (lang_sys_at b)) b script_layout (script_place b s) l Absent (λ p e. led b lang_sys_layout p (u16_at b (e + 4)))))

  pub feature_index_law : (k : Kind) (at : LangSysPlace) (i : ℕ) → slice_get (indices_of (lang_sys_of (read_table k b) at)) i ≡ entry_of b lang_sys_layout (lang_sys_place b at) i None (λ p e. Some (u16_at b e))
  feature_index_law k at i =
      ap (λ t. slice_get (indices_of t) i) (lang_sys_of_law k at) ∙
      nth-entry b lang_sys_layout (lang_sys_at b) indices_of (λ p e. u16_at b e) refl refl (λ p. refl) (lang_sys_place b at) i

  pub feature_tag_law : (i : ℕ) → (feature_record (reading_of b) i).tag ≡ entry_of b list_layout (feature_list_place b) i 0 (λ p e. u32_at b e)
  feature_tag_law i = field-entry b list_layout (feature_list_at b) listed (feature_record_at b) refl refl (λ p. refl) (λ r. r.tag) (feature_list_place b) i no_feature

  pub script_list_answer : mapped length (reading_of b).scripts ≡ mapped (λ p. u16_at b (p + 0)) (script_list_place b)
  script_list_answer = mapped-mapped (script_list_at b) length (λ p. u16_at b (p + 0)) (λ p. length-map-range_with_len _ 0 (u16_at b (p + 0))) (script_list_place b)

  pub feature_list_answer : mapped length (reading_of b).features ≡ mapped (λ p. u16_at b (p + 0)) (feature_list_place b)
  feature_list_answer = mapped-mapped (feature_list_at b) length (λ p. u16_at b (p + 0)) (λ p. length-map-range_with_len _ 0 (u16_at b (p + 0))) (feature_list_place b)

  pub script_answer : (s : ℕ) → mapped (λ t. length t.records) (script (reading_of b) s) ≡ mapped (λ p. u16_at b (p + 2)) (script_place b s)
  script_answer s =
      ap (mapped (λ t. length t.records)) (script_law s) ∙
      mapped-mapped (script_at b) (λ t. length t.records) (λ p. u16_at b (p + 2)) (λ p. length-map-range_with_len _ 0 (u16_at b (p + 2))) (script_place b s)

  pub lang_sys_of_answer : (k : Kind) (at : LangSysPlace) → mapped lang_sys_head (lang_sys_of (read_table k b) at) ≡ mapped (lang_sys_fields b) (lang_sys_place b at)
  lang_sys_of_answer k at =
      ap (mapped lang_sys_head) (lang_sys_of_law k at) ∙
      mapped-mapped (lang_sys_at b) lang_sys_head (lang_sys_fields b)
      (λ p. ap (λ n. record { required = u16_at b (p + 2); count = n }) (length-map-range_with_len _ 0 (u16_at b (p + 4)))) (lang_sys_place b at)

  pub variations_answer : mapped variations_head (reading_of b).variations ≡ mapped (variations_fields b) (variations_place b)
  variations_answer =
      mapped-mapped (variations_at b) variations_head (variations_fields b)
      (λ p. ap (λ n. record { version = u32_at b p; count = n }) (length-map-range_with_len _ 0 (u32_at b (p + 4)))) (variations_place b)

  -- variations

  pub conditions_law : (v : ℕ) → (variation_record (reading_of b) v).conditions ≡ mapped (condition_set_at b) (condition_set_place b v)
  conditions_law v =
      ap (λ r. r.conditions) (variation-entry b (variations_place b) v) ∙
      (variation-map (λ r. r.conditions) b (variations_place b) v no_variation (variation_record_at b) ∙
      (sym (variation-map (mapped (condition_set_at b)) b (variations_place b) v Absent (λ p e. led b condition_set_layout p (u32_at b e))) ∙
      ap (mapped (condition_set_at b))
      (variation-same b (variations_place b) v Absent (λ p e. led b condition_set_layout p (u32_at b e)) (λ p e. led b condition_set_layout p (u32_at b (e + 0)))
      (λ p e. ap (λ x. led b condition_set_layout p (u32_at b x)) (sym (add-zero e))))))

  pub substitution_law : (v : ℕ) → (variation_record (reading_of b) v).substitution ≡ mapped (substitution_at b) (substitution_place b v)
  substitution_law v =
      ap (λ r. r.substitution) (variation-entry b (variations_place b) v) ∙
      (variation-map (λ r. r.substitution) b (variations_place b) v no_variation (variation_record_at b) ∙
      sym (variation-map (mapped (substitution_at b)) b (variations_place b) v Absent (λ p e. led b substitution_layout p (u32_at b (e + 4)))))

  pub condition_law : (v i : ℕ) → condition (reading_of b) v i ≡ entry_of b condition_set_layout (condition_set_place b v) i Absent (condition_entry_at b)
  condition_law v i =
      ap (λ t. get_or (listed t) i Absent) (conditions_law v) ∙
      getD-entry b condition_set_layout (condition_set_at b) listed (condition_entry_at b) refl refl (λ p. refl) (condition_set_place b v) i Absent

  pub substituted_law : (v i : ℕ) → slice_get (map index_of (substitution_records (variation_record (reading_of b) v).substitution)) i ≡ entry_of b substitution_layout (substitution_place b v) i None (λ p e. Some (u16_at b e))
  substituted_law v i =
      ap (λ t. slice_get (map index_of (substitution_records t)) i) (substitution_law v) ∙
      nth-entry b substitution_layout (substitution_at b) (λ t. map index_of (substitution_records t)) (λ p e. u16_at b e) refl refl
      (λ p. map-map index_of (λ j. substitution_record_at b p (p + 4 + 2 + 6 * j)) (range_with_len 0 (u16_at b (p + 4)))) (substitution_place b v) i

  pub condition_set_answer : (v : ℕ) → mapped length (variation_record (reading_of b) v).conditions ≡ mapped (λ p. u16_at b (p + 0)) (condition_set_place b v)
  condition_set_answer v =
      ap (mapped length) (conditions_law v) ∙
      mapped-mapped (condition_set_at b) length (λ p. u16_at b (p + 0)) (λ p. length-map-range_with_len _ 0 (u16_at b (p + 0))) (condition_set_place b v)

  pub substitution_answer : (v : ℕ) → mapped substitution_head (variation_record (reading_of b) v).substitution ≡ mapped (substitution_fields b) (substitution_place b v)
  substitution_answer v =
      ap (mapped substitution_head) (substitution_law v) ∙
      mapped-mapped (substitution_at b) substitution_head (substitution_fields b)
      (λ p. ap (λ n. record { version = u32_at b p; count = n }) (length-map-range_with_len _ 0 (u16_at b (p + 4)))) (substitution_place b v)

  -- features, listed and alternate

  pub feature_law : (k : Kind) (at : FeaturePlace) → feature (read_table k b) at ≡ mapped (feature_at b (feature_params b at)) (feature_place b at)
  feature_law k (Listed i) =
      field-entry b list_layout (feature_list_at b) listed (feature_record_at b) refl refl (λ p. refl) (λ r. r.table) (feature_list_place b) i no_feature ∙
      entry-by b list_layout (feature_list_place b) i 0 (λ p e. u32_at b e) (λ t. feature_at b (listed_params b t)) (λ p e. led b feature_layout p (u16_at b (e + 4)))
  feature_law k (Alternate v i) =
      ap (λ t. (get_or (substitution_records t) i no_substitution).alternate) (substitution_law v) ∙
      (field-entry b substitution_layout (substitution_at b) substitution_records (substitution_record_at b) refl refl (λ p. refl) (λ r. r.alternate) (substitution_place b v) i no_substitution ∙
      sym (entry-map (mapped (feature_at b (alternate_params b))) b substitution_layout (substitution_place b v) i Absent (λ p e. led b feature_layout p (u32_at b (e + 2)))))

  pub lookup_law : (k : Kind) (at : FeaturePlace) (i : ℕ) → slice_get (lookups_of (feature (read_table k b) at)) i ≡ entry_of b feature_layout (feature_place b at) i None (λ p e. Some (u16_at b e))
  lookup_law k at i =
      ap (λ t. slice_get (lookups_of t) i) (feature_law k at) ∙
      nth-entry b feature_layout (feature_at b (feature_params b at)) lookups_of (λ p e. u16_at b e) refl refl (λ p. refl) (feature_place b at) i

  pub params_law : (k : Kind) (at : FeaturePlace) → params_of (feature (read_table k b) at) ≡ params_of_place b at (feature_place b at)
  params_law k at = ap params_of (feature_law k at) ∙ params-place b at (feature_place b at)

  pub feature_answer : (k : Kind) (at : FeaturePlace) → mapped (λ t. length t.lookups) (feature (read_table k b) at) ≡ mapped (λ p. u16_at b (p + 2)) (feature_place b at)
  feature_answer k at =
      ap (mapped (λ t. length t.lookups)) (feature_law k at) ∙
      mapped-mapped (feature_at b (feature_params b at)) (λ t. length t.lookups) (λ p. u16_at b (p + 2)) (λ p. length-map-range_with_len _ 0 (u16_at b (p + 2))) (feature_place b at)
