-- What is read of a table that was found, by where it lies in the bytes.
use Rattle.std.proofs.Common.{◌≡◌, ℕ, ◌+◌, ◌*◌, cond, nat_lt, List, Some, None, refl, ap, ◌∙◌, sym, add-zero}
use Rattle.source.specs.declared.parts.FeaturePlace.TheVariants.{Listed, Alternate}
use Rattle.source.specs.declared.parts.Standing.{Standing}
use Rattle.source.specs.declared.parts.Standing.TheVariants.{Absent, Unreadable, There}
use Rattle.source.specs.Standings.{mapped}
use Rattle.table.specs.declared.layouts.Layout.{Layout}
use Rattle.table.specs.Format.{u16_at, u32_at, led, list_layout, lang_sys_layout, feature_layout, substitution_layout, condition_set_layout, condition_entry_at, feature_list_place, listed_params, alternate_params}
use Rattle.table.specs.Places.{at_entry, entry_of, record_led, default_led, alternate_place, variation_of, lang_sys_fields, variations_fields, substitution_fields, params_of_place}
use Rattle.table.specs.Spots.{Spot, placed, spot, found}
use Rattle.table.specs.Standings.{part_or}
use Rattle.table.proofs.Entries.{entry-map, variation-map}

-- the field with which a table begins
pub first_field : (b : List ℕ) (p : ℕ) → u16_at b (p + 0) ≡ u16_at b p
first_field b p = ap (u16_at b) (add-zero p)

-- A table that stands as s in the bytes b, and was found as r.
module _ (b : List ℕ) (s : Standing ℕ) (r : Standing Spot) (h : r ≡ placed b s) where
  found_in : {X : Type 0} (d : X) (f : List ℕ → ℕ → X) → found r d f ≡ part_or s d (f b)
  found_in d f =
      ap (λ t. found t d f) h ∙
      elim s as (λ v. found (placed b v) d f ≡ part_or v d (f b)) [ Absent ↦ refl | Unreadable ↦ refl | There p ↦ refl ]

  mapped_in : {X : Type 0} (f : List ℕ → ℕ → X) → mapped (λ t. f t.bytes t.at) r ≡ mapped (f b) s
  mapped_in f =
      ap (mapped (λ t. f t.bytes t.at)) h ∙
      elim s as (λ v. mapped (λ t. f t.bytes t.at) (placed b v) ≡ mapped (f b) v) [ Absent ↦ refl | Unreadable ↦ refl | There p ↦ refl ]

  -- what a table says besides its entries

  pub count_found : (n : ℕ) → mapped (λ t. u16_at t.bytes (t.at + n)) r ≡ mapped (λ p. u16_at b (p + n)) s
  count_found n = mapped_in (λ c p. u16_at c (p + n))

  pub lang_sys_found : mapped (λ t. lang_sys_fields t.bytes t.at) r ≡ mapped (lang_sys_fields b) s
  lang_sys_found = mapped_in lang_sys_fields

  pub variations_found : mapped (λ t. variations_fields t.bytes t.at) r ≡ mapped (variations_fields b) s
  variations_found = mapped_in variations_fields

  pub substitution_found : mapped (λ t. substitution_fields t.bytes t.at) r ≡ mapped (substitution_fields b) s
  substitution_found = mapped_in substitution_fields

  -- what stands at an entry

  pub tag_found : (l : Layout) (i : ℕ) → found r 0 (λ c p. at_entry c l p i 0 (u32_at c)) ≡ entry_of b l s i 0 (λ p e. u32_at b e)
  tag_found l i = found_in 0 (λ c p. at_entry c l p i 0 (u32_at c))

  pub number_found : (l : Layout) (i : ℕ) → found r None (λ c p. at_entry c l p i None (λ e. Some (u16_at c e))) ≡ entry_of b l s i None (λ p e. Some (u16_at b e))
  number_found l i = found_in None (λ c p. at_entry c l p i None (λ e. Some (u16_at c e)))

  pub condition_found : (i : ℕ) → found r Absent (λ c p. at_entry c condition_set_layout p i Absent (condition_entry_at c p)) ≡ entry_of b condition_set_layout s i Absent (condition_entry_at b)
  condition_found i = found_in Absent (λ c p. at_entry c condition_set_layout p i Absent (condition_entry_at c p))

  -- where an offset leads

  pub default_found : found r Absent (λ c p. placed c (led c lang_sys_layout p (u16_at c p))) ≡ placed b (default_led b s)
  default_found =
      found_in Absent (λ c p. placed c (led c lang_sys_layout p (u16_at c p))) ∙
      elim s as (λ v. part_or v Absent (λ p. placed b (led b lang_sys_layout p (u16_at b p))) ≡ placed b (default_led b v))
      [ Absent ↦ refl | Unreadable ↦ refl | There p ↦ refl ]

  pub record_found : (l t : Layout) (i : ℕ)
      → found r Absent (λ c p. at_entry c l p i Absent (λ e. placed c (led c t p (u16_at c (e + 4))))) ≡ placed b (record_led b l s i t)
  record_found l t i =
      found_in Absent (λ c p. at_entry c l p i Absent (λ e. placed c (led c t p (u16_at c (e + 4))))) ∙
      sym (entry-map (mapped (spot b)) b l s i Absent (λ p e. led b t p (u16_at b (e + 4))))

  pub alternate_found : (i : ℕ)
      → found r Absent (λ c p. at_entry c substitution_layout p i Absent (λ e. placed c (led c feature_layout p (u32_at c (e + 2))))) ≡ placed b (alternate_place b s i)
  alternate_found i =
      found_in Absent (λ c p. at_entry c substitution_layout p i Absent (λ e. placed c (led c feature_layout p (u32_at c (e + 2))))) ∙
      sym (entry-map (mapped (spot b)) b substitution_layout s i Absent (λ p e. led b feature_layout p (u32_at b (e + 2))))

  pub variation_found : (l : Layout) (v from : ℕ)
      → found r Absent (λ c p. cond (nat_lt v (u32_at c (p + 4))) (placed c (led c l p (u32_at c (p + 8 + 8 * v + from)))) Absent)
      ≡ placed b (variation_of b s v Absent (λ p e. led b l p (u32_at b (e + from))))
  variation_found l v from =
      found_in Absent (λ c p. cond (nat_lt v (u32_at c (p + 4))) (placed c (led c l p (u32_at c (p + 8 + 8 * v + from)))) Absent) ∙
      sym (variation-map (mapped (spot b)) b s v Absent (λ p e. led b l p (u32_at b (e + from))))

  -- the parameters of a feature, listed and alternate

  pub listed_params_found : (i : ℕ)
      → found r Absent (λ c p. listed_params c (entry_of b list_layout (feature_list_place b) i 0 (λ p e. u32_at b e)) p) ≡ params_of_place b (Listed i) s
  listed_params_found i = found_in Absent (λ c p. listed_params c (entry_of b list_layout (feature_list_place b) i 0 (λ p e. u32_at b e)) p)

  pub alternate_params_found : (v k : ℕ) → found r Absent alternate_params ≡ params_of_place b (Alternate v k) s
  alternate_params_found v k = found_in Absent alternate_params
