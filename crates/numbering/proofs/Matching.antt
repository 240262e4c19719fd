-- Features that are alike.
use Rattle.std.proofs.Common.{◌≡◌, ℕ, ◌+◌, ◌<◌, ◌≤◌, Bool, true, false, cond, ◌&&◌, eqb, List, [], ◌∷◌, ◌++◌, map, length, get_or, take, drop, Some, None, Option, sym, refl, ap, ◌∙◌, arith}
use Rattle.std.specs.List.{find}
use Rattle.std.specs.Option.{option_map, unwrap_or}
use Rattle.std.proofs.lemmas.Bool.{eq-eqb, ne_eqb, and_from}
use Rattle.std.proofs.lemmas.List.{at_drop_more, at_drop_all, append-nil, drop_more, ext_get_or, get_or-map, get_or-take, length-map, length-take-le, take-append-drop, take-take}
use Rattle.source.specs.declared.parts.Standing.{Standing}
use Rattle.source.specs.declared.parts.Standing.TheVariants.{Absent, Unreadable, There}
use Rattle.source.specs.declared.parts.FeaturePlace.TheVariants.{Listed}
use Rattle.source.specs.Reading.{FeatureTable, Reading}
use Rattle.source.specs.Questions.{feature_record, feature, lookups_of}
use Rattle.numbering.specs.Sets.{somes, equal_lists, if_among}
use Rattle.numbering.specs.Stages.{kept_lookups, alike, front, matched, earliest, earliest_of}
use Rattle.numbering.proofs.Somes.{somes-among}

pub equal-refl : (xs : List ℕ) → equal_lists xs xs ≡ true
equal-refl [] = refl
equal-refl (x ∷ xs) = and_from (eqb x x) (equal_lists xs xs) (eq-eqb x x refl) (equal-refl xs)

front-none : {X : Type 0} (s : Standing X) (i : ℕ) (rest : List ℕ) → ((x : X) → s ≡ There x → ⊥) → front s i rest ≡ []
front-none Absent i rest h = refl
front-none Unreadable i rest h = refl
front-none (There x) i rest h = absurd (h x refl)

found-or : (b : Bool) (x : ℕ) (o : Option ℕ) (i : ℕ) → unwrap_or (cond b (Some x) o) i ≡ cond b x (unwrap_or o i)
found-or true x o i = refl
found-or false x o i = refl

map-same : (o : Option ℕ) → option_map (λ y. y) o ≡ o
map-same None = refl
map-same (Some x) = refl

module _ (r : Reading) (ls : List ℕ) where
  -- kept lookups decide between features with one tag
  pub alike_by_lookups : (j i : ℕ) → (feature_record r j).tag ≡ (feature_record r i).tag → alike r ls j i ≡ equal_lists (somes (map (if_among ls) (lookups_of (feature r (Listed j))))) (somes (map (if_among ls) (lookups_of (feature r (Listed i)))))
  alike_by_lookups j i e =
      sym (ap (λ xs. equal_lists xs (somes (map (if_among ls) (lookups_of (feature r (Listed i)))))) (somes-among ls (lookups_of (feature r (Listed j))))
      ∙ (ap (equal_lists (kept_lookups r ls j)) (somes-among ls (lookups_of (feature r (Listed i))))
      ∙ sym (ap (λ t. t && equal_lists (kept_lookups r ls j) (kept_lookups r ls i)) (eq-eqb (feature_record r j).tag (feature_record r i).tag e))))

  pub unlike_by_tags : (j i : ℕ) → ((feature_record r j).tag ≡ (feature_record r i).tag → ⊥) → alike r ls j i ≡ false
  unlike_by_tags j i n =
      ap (λ t. t && equal_lists (kept_lookups r ls j) (kept_lookups r ls i)) (ne_eqb (feature_record r j).tag (feature_record r i).tag n)

  -- the first that is found
  earliest-found : (js : List ℕ) (i : ℕ) → unwrap_or (find (λ j. alike r ls j i) js) i ≡ earliest r ls js i
  earliest-found [] i = refl
  earliest-found (j ∷ js) i = found-or (alike r ls j i) j (find (λ k. alike r ls k i) js) i ∙ ap (cond (alike r ls j i) j) (earliest-found js i)

  pub found-earliest : (js : List ℕ) (i x : ℕ) (o : Option ℕ) → x ≡ unwrap_or o i → option_map (λ y. y) o ≡ find (λ j. alike r ls j i) js → x ≡ earliest r ls js i
  found-earliest js i x o e f = e ∙ (ap (λ q. unwrap_or q i) (sym (map-same o) ∙ f) ∙ earliest-found js i)

  pub alike_self : (i : ℕ) → alike r ls i i ≡ true
  alike_self i = and_from (eqb (feature_record r i).tag (feature_record r i).tag) (equal_lists (kept_lookups r ls i) (kept_lookups r ls i)) (eq-eqb (feature_record r i).tag (feature_record r i).tag refl) (equal-refl (kept_lookups r ls i))

  -- later features do not count, since a feature is alike itself
  pub earliest-self : (xs ys : List ℕ) (i : ℕ) → earliest r ls (xs ++ i ∷ ys) i ≡ earliest r ls xs i
  earliest-self [] ys i = ap (λ t. cond t i (earliest r ls ys i)) (alike_self i)
  earliest-self (j ∷ js) ys i = ap (λ t. cond (alike r ls j i) j t) (earliest-self js ys i)

  pub earliest-before : (xs : List ℕ) (k : ℕ) → k < length xs → earliest r ls xs (get_or xs k 0) ≡ earliest r ls (take k xs) (get_or xs k 0)
  earliest-before xs k h =
      ap (λ l. earliest r ls l (get_or xs k 0)) (sym (take-append-drop k xs) ∙ ap (λ l. take k xs ++ l) (drop_more xs k 0 h))
      ∙ earliest-self (take k xs) (drop (k + 1) xs) (get_or xs k 0)

  pub all-earliest : (vs out : List ℕ) (n : ℕ) → n ≤ length vs → n ≤ length out → take n vs ≡ matched r vs → ((k : ℕ) → k < n → get_or out k 0 ≡ earliest r ls (take k vs) (get_or vs k 0)) → take n out ≡ earliest_of r ls vs
  all-earliest vs out n hv ho e each =
      let xs = take n vs in
      let size : length xs ≡ n = length-take-le n vs hv in
      ext_get_or 0 (take n out) (map (earliest r ls xs) xs) (length-take-le n out ho ∙ sym (length-map xs (earliest r ls xs) ∙ size))
      (λ k h.
      let below : k < n = omega (arith, length-take-le n out ho, h) in
      let same : get_or xs k 0 ≡ get_or vs k 0 = get_or-take n vs k 0 below in
      get_or-take n out k 0 below ∙ (each k below
      ∙ (ap (λ l. earliest r ls l (get_or vs k 0)) (sym (take-take k n vs (omega arith)))
      ∙ (ap (earliest r ls (take k xs)) (sym same)
      ∙ (sym (earliest-before xs k (omega arith)) ∙ sym (get_or-map (earliest r ls xs) xs k 0 0 (omega arith)))))))
      ∙ ap (λ l. map (earliest r ls l) l) e

-- the survivors up to the first that cannot be read

module _ (r : Reading) (vs : List ℕ) (v : ℕ) (in' : v < length vs) where
  front-step : matched r (drop v vs) ≡ front (feature r (Listed (get_or vs v 0))) (get_or vs v 0) (matched r (drop (v + 1) vs))
  front-step = at_drop_more (matched r) vs v 0 in'

  pub matched-ends : ((t : FeatureTable) → feature r (Listed (get_or vs v 0)) ≡ There t → ⊥) → take v vs ++ matched r (drop v vs) ≡ matched r vs → take v vs ≡ matched r vs
  matched-ends h inv =
      sym (append-nil (take v vs)) ∙ (sym (ap (λ l. take v vs ++ l) (front-step ∙ front-none (feature r (Listed (get_or vs v 0))) (get_or vs v 0) (matched r (drop (v + 1) vs)) h)) ∙ inv)

pub matched-all : (r : Reading) (vs : List ℕ) (v : ℕ) → length vs ≤ v → take v vs ++ matched r (drop v vs) ≡ matched r vs → take v vs ≡ matched r vs
matched-all r vs v h inv = sym (append-nil (take v vs)) ∙ (sym (ap (λ l. take v vs ++ l) (at_drop_all (matched r) vs v h)) ∙ inv)
