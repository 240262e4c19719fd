-- Chains of places, and a walk along one to a feature that is alike.
--   Past at     the walk is at a place of the chain, and no survivor from there on is alike
use Rattle.std.proofs.Common.{◌≡◌, ℕ, zero, suc, ◌+◌, ◌-◌, ◌%◌, ◌<◌, ◌≤◌, true, false, eqb, ◌≢◌, List, [], ◌∷◌, length, get_or, take, Some, None, Option, sym, refl, ap, ◌∙◌, subst, ⊎_elim, arith}
use Rattle.std.proofs.lemmas.List.{get_or-take, length-take-le, take-take}
use Rattle.std.proofs.lemmas.Bool.{cases_Bool, cases_eq, cases_lt, cond_both, cond-false, eq-eqb, eqb-true, eqb-false, or_left, or_right}
use Rattle.source.specs.Reading.{Reading}
use Rattle.source.specs.Questions.{feature_record}
use Rattle.numbering.specs.declared.chains.Chains.{Chains}
use Rattle.numbering.specs.Chains.{mixed, bucket_in, last_in, Chained}
use Rattle.numbering.specs.Sets.{among}
use Rattle.numbering.specs.Stages.{kept_lookups, alike, earliest}
use Rattle.numbering.proofs.Earlier.{same-tags, same-lookups, one-earliest}
use Rattle.numbering.proofs.Matching.{earliest-before}

-- a place that may be none, as the place after it
abbrev pub after : Option ℕ → ℕ
after None = 0
after (Some p) = p + 1

module _ (f : ℕ → ℕ) where
  last-le : (u b : ℕ) → after (last_in f u b) ≤ u
  last-le zero b = omega arith
  last-le (suc u) b = cond_both (eqb (f u) b) (Some u) (last_in f u b) (λ x. after x ≤ suc u) (λ e. omega arith) (λ e. omega (arith, last-le u b))

  last-bucket : (u b : ℕ) → 0 < after (last_in f u b) → f (after (last_in f u b) - 1) ≡ b
  last-bucket zero b = λ h. absurd (omega arith)
  last-bucket (suc u) b =
      cond_both (eqb (f u) b) (Some u) (last_in f u b) (λ x. 0 < after x → f (after x - 1) ≡ b)
      (λ e h. let s : u + 1 - 1 ≡ u = omega arith in ap f s ∙ eqb-true (f u) b e)
      (λ e. last-bucket u b)

  none-since : (u b p : ℕ) → after (last_in f u b) ≤ p → p < u → f p ≡ b → ⊥
  none-since zero b p = λ l h e. omega arith
  none-since (suc u) b p =
      cond_both (eqb (f u) b) (Some u) (last_in f u b) (λ x. after x ≤ p → p < suc u → f p ≡ b → ⊥)
      (λ _ l h e. omega arith)
      (λ n l h e. ⊎_elim (λ s. eqb-false (f u) b n (sym (ap f s) ∙ e)) (λ (s : p ≡ u → ⊥). none-since u b p l (omega arith) e) (cases_eq p u))

among-at : (xs : List ℕ) (i : ℕ) → i < length xs → among xs (get_or xs i 0) ≡ true
among-at [] i h = absurd (omega arith)
among-at (y ∷ ys) zero h = or_left (eqb y y) (among ys y) (eq-eqb y y refl)
among-at (y ∷ ys) (suc i) h = or_right (eqb y (get_or ys i 0)) (among ys (get_or ys i 0)) (among-at ys i (omega arith))

module _ (r : Reading) (ls : List ℕ) where
  none-earlier : (js : List ℕ) (i : ℕ) → ((p : ℕ) → p < length js → alike r ls (get_or js p 0) i ≡ false) → earliest r ls js i ≡ i
  none-earlier [] i h = refl
  none-earlier (j ∷ js) i h = cond-false (alike r ls j i) j (earliest r ls js i) (h 0 (omega arith)) ∙ none-earlier js i (λ p l. h (suc p) (omega arith))

  unlike : (x y : ℕ) → (bucket_in r ls x ≡ bucket_in r ls y → ⊥) → alike r ls x y ≡ false
  unlike x y n = ⊎_elim (λ e. absurd (n (ap (λ t. mixed (t % 65521) (kept_lookups r ls x) % 239) (same-tags r ls x y e) ∙ ap (λ l. mixed ((feature_record r y).tag % 65521) l % 239) (same-lookups r ls x y e)))) (λ e. e) (cases_Bool (alike r ls x y))

  module _ (vs : List ℕ) (v : ℕ) where
    abbrev pub Past : ℕ → Type 0
    Past at =
        (at ≤ v)
        × (0 < at → bucket_in r ls (get_or vs (at - 1) 0) ≡ bucket_in r ls (get_or vs v 0))
        × ((p : ℕ) → at ≤ p → p < v → alike r ls (get_or vs p 0) (get_or vs v 0) ≡ false)

    past-last : (u : ℕ) (at : Option ℕ) → u ≤ v → at ≡ last_in (λ p. bucket_in r ls (get_or vs p 0)) u (bucket_in r ls (get_or vs v 0)) → ((p : ℕ) → u ≤ p → p < v → alike r ls (get_or vs p 0) (get_or vs v 0) ≡ false) → Past (after at)
    past-last u at l e rest =
        let f : ℕ → ℕ = λ p. bucket_in r ls (get_or vs p 0) in
        subst (λ x. Past (after x)) (sym e) (
          omega (arith, last-le f u (f v)),
          last-bucket f u (f v),
          λ p h b. ⊎_elim (λ (s : p < u). unlike (get_or vs p 0) (get_or vs v 0) (none-since f u (f v) p h s)) (λ (s : u ≤ p). rest p s b) (cases_lt p u),
        )

    module _ (k : Chains) (c : Chained k (λ p. bucket_in r ls (get_or vs p 0)) v) where
      pub past-none : (at : Option ℕ) → bucket_in r ls (get_or vs v 0) < 239 → at ≡ get_or k.heads (bucket_in r ls (get_or vs v 0)) None → Past (after at)
      past-none at h e = past-last v at (omega arith) (e ∙ c.from (bucket_in r ls (get_or vs v 0)) h) (λ p l b. absurd (omega arith))

      pub past-le : (p : ℕ) → p + 1 ≤ v → after (get_or k.nexts p None) < p + 1
      past-le p l =
          let f : ℕ → ℕ = λ p. bucket_in r ls (get_or vs p 0) in
          omega (arith, ap after (c.onward p (omega arith)), last-le f p (f p))

      pub past_one : (at : ℕ) → Past (at + 1) → alike r ls (get_or vs at 0) (get_or vs v 0) ≡ false → Past (after (get_or k.nexts at None))
      past_one at w n =
          let f : ℕ → ℕ = λ p. bucket_in r ls (get_or vs p 0) in
          let same : at + 1 - 1 ≡ at = omega arith in
          let here : f at ≡ f v = sym (ap f same) ∙ w.1 (omega arith) in
          past-last at (get_or k.nexts at None) (omega (arith, w.0)) (c.onward at (omega (arith, w.0)) ∙ ap (last_in f at) here) (λ p l b.
          ⊎_elim (λ (s : p ≡ at). ap (λ q. alike r ls (get_or vs q 0) (get_or vs v 0)) s ∙ n) (λ (s : p ≢ at). w.2 p (omega arith) b) (cases_eq p at))

    pub past_all : (at : ℕ) → v ≤ length vs → at ≤ 0 → Past at → get_or vs v 0 ≡ earliest r ls (take v vs) (get_or vs v 0)
    past_all at l h w =
        sym (none-earlier (take v vs) (get_or vs v 0) (λ p b.
        let in' : p < v = omega (arith, length-take-le v vs l) in
        ap (λ j. alike r ls j (get_or vs v 0)) (get_or-take v vs p 0 in') ∙ w.2 p (omega arith) in'))

    pub past-alike : (p : ℕ) → p < v → v ≤ length vs → alike r ls (get_or vs p 0) (get_or vs v 0) ≡ true → earliest r ls (take p vs) (get_or vs p 0) ≡ earliest r ls (take v vs) (get_or vs v 0)
    past-alike p h l e =
        let js = take v vs in
        let in' : p < length js = omega (arith, length-take-le v vs l) in
        let same : get_or js p 0 ≡ get_or vs p 0 = get_or-take v vs p 0 h in
        ap (λ xs. earliest r ls xs (get_or vs p 0)) (sym (take-take p v vs (omega arith)))
        ∙ (ap (earliest r ls (take p js)) (sym same)
        ∙ (sym (earliest-before r ls js p in')
        ∙ one-earliest r ls js (get_or js p 0) (get_or vs v 0) (among-at js p in') (ap (λ j. alike r ls j (get_or vs v 0)) same ∙ e)))
