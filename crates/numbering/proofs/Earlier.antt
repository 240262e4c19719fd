-- The earliest match among features that are alike.
use Rattle.std.proofs.Common.{◌≡◌, ℕ, ◌<◌, ◌≤◌, true, false, ◌&&◌, eqb, List, [], ◌∷◌, sym, refl, ap, ◌∙◌, ⊎_elim, arith}
use Rattle.std.proofs.ByRecursion.{All-get_or}
use Rattle.std.proofs.lemmas.Bool.{and_from, and_parts, both_ways, cases_Bool, cond-true, cond-false, eq-eqb, eqb-true, or_cases, or_left, or_right}
use Rattle.std.specs.List.{AllByRecursion as All}
use Rattle.source.specs.Reading.{Reading}
use Rattle.source.specs.Questions.{feature_record}
use Rattle.numbering.specs.Numbers.{Earliest}
use Rattle.numbering.specs.Sets.{Ascends, among, equal_lists}
use Rattle.numbering.specs.Stages.{kept_lookups, alike, earliest}
use Rattle.numbering.proofs.Matching.{equal-refl, alike_self}
use Rattle.numbering.proofs.Ranks.{Up, up_from}
use Rattle.numbering.proofs.Remapping.{among-place}

equal-same : (xs ys : List ℕ) → equal_lists xs ys ≡ true → xs ≡ ys
equal-same [] [] e = refl
equal-same [] (y ∷ ys) e = absurd (both_ways false refl e)
equal-same (x ∷ xs) [] e = absurd (both_ways false refl e)
equal-same (x ∷ xs) (y ∷ ys) e =
    let parts = and_parts (eqb x y) (equal_lists xs ys) e in
    ap (λ z. z ∷ xs) (eqb-true x y parts.0) ∙ ap (λ l. y ∷ l) (equal-same xs ys parts.1)

all_above : (a : ℕ) (xs : List ℕ) (x : ℕ) → All (λ y. a < y) xs → among xs x ≡ true → a < x
all_above a xs x h e = let at = among-place xs x e in omega (arith, at.2, All-get_or (λ y. a < y) xs at.0 0 at.1 h)

module _ (r : Reading) (ls : List ℕ) where
  -- features are alike exactly if tags and kept lookups are the same
  module _ (x y : ℕ) where
    pub same-tags : alike r ls x y ≡ true → (feature_record r x).tag ≡ (feature_record r y).tag
    same-tags e = eqb-true (feature_record r x).tag (feature_record r y).tag (and_parts (eqb (feature_record r x).tag (feature_record r y).tag) (equal_lists (kept_lookups r ls x) (kept_lookups r ls y)) e).0

    pub same-lookups : alike r ls x y ≡ true → kept_lookups r ls x ≡ kept_lookups r ls y
    same-lookups e = equal-same (kept_lookups r ls x) (kept_lookups r ls y) (and_parts (eqb (feature_record r x).tag (feature_record r y).tag) (equal_lists (kept_lookups r ls x) (kept_lookups r ls y)) e).1

    alike_from : (feature_record r x).tag ≡ (feature_record r y).tag → kept_lookups r ls x ≡ kept_lookups r ls y → alike r ls x y ≡ true
    alike_from t l =
        and_from (eqb (feature_record r x).tag (feature_record r y).tag) (equal_lists (kept_lookups r ls x) (kept_lookups r ls y)) (eq-eqb (feature_record r x).tag (feature_record r y).tag t) (ap (equal_lists (kept_lookups r ls x)) (sym l) ∙ equal-refl (kept_lookups r ls x))

  alike-sym : (x y : ℕ) → alike r ls x y ≡ true → alike r ls y x ≡ true
  alike-sym x y e = alike_from y x (sym (same-tags x y e)) (sym (same-lookups x y e))

  alike-trans : (x y z : ℕ) → alike r ls x y ≡ true → alike r ls y z ≡ true → alike r ls x z ≡ true
  alike-trans x y z e h = alike_from x z (same-tags x y e ∙ same-tags y z h) (same-lookups x y e ∙ same-lookups y z h)

  -- what is alike one of two that are alike is alike the other
  alike_both : (j x y : ℕ) → alike r ls x y ≡ true → alike r ls j x ≡ alike r ls j y
  alike_both j x y e =
      ap (λ t. eqb (feature_record r j).tag t && equal_lists (kept_lookups r ls j) (kept_lookups r ls x)) (same-tags x y e)
      ∙ ap (λ l. eqb (feature_record r j).tag (feature_record r y).tag && equal_lists (kept_lookups r ls j) l) (same-lookups x y e)

  -- a feature that the first one is not alike stands among the others
  module _ (j : ℕ) (js : List ℕ) (x : ℕ) where
    here : alike r ls j x ≡ true → earliest r ls (j ∷ js) x ≡ j
    here e = cond-true (alike r ls j x) j (earliest r ls js x) e

    later : alike r ls j x ≡ false → earliest r ls (j ∷ js) x ≡ earliest r ls js x
    later e = cond-false (alike r ls j x) j (earliest r ls js x) e

    onward : alike r ls j x ≡ false → among (j ∷ js) x ≡ true → among js x ≡ true
    onward e a =
        ⊎_elim (λ h. absurd (both_ways (alike r ls j x) e (ap (λ n. alike r ls n x) (eqb-true j x h) ∙ alike_self r ls x))) (λ h. h) (or_cases (eqb j x) (among js x) a)

  earliest-kept : (ms : List ℕ) (x : ℕ) → among ms x ≡ true → among ms (earliest r ls ms x) ≡ true
  earliest-kept [] x a = absurd (both_ways false refl a)
  earliest-kept (j ∷ js) x a =
      ⊎_elim (λ e. ap (among (j ∷ js)) (here j js x e) ∙ or_left (eqb j j) (among js j) (eq-eqb j j refl))
      (λ e. ap (among (j ∷ js)) (later j js x e) ∙ or_right (eqb j (earliest r ls js x)) (among js (earliest r ls js x)) (earliest-kept js x (onward j js x e a)))
      (cases_Bool (alike r ls j x))

  earliest-alike : (ms : List ℕ) (x : ℕ) → among ms x ≡ true → alike r ls (earliest r ls ms x) x ≡ true
  earliest-alike [] x a = absurd (both_ways false refl a)
  earliest-alike (j ∷ js) x a =
      ⊎_elim (λ e. ap (λ n. alike r ls n x) (here j js x e) ∙ e)
      (λ e. ap (λ n. alike r ls n x) (later j js x e) ∙ earliest-alike js x (onward j js x e a))
      (cases_Bool (alike r ls j x))

  earliest-least : (ms : List ℕ) (x : ℕ) → Up ms → among ms x ≡ true → earliest r ls ms x ≤ x
  earliest-least [] x u a = absurd (both_ways false refl a)
  earliest-least (j ∷ js) x u a =
      ⊎_elim (λ e.
      let first : j ≤ x = ⊎_elim (λ h. omega (arith, eqb-true j x h)) (λ h. omega (arith, all_above j js x u.0 h)) (or_cases (eqb j x) (among js x) a) in
      omega (arith, here j js x e))
      (λ e. omega (arith, later j js x e, earliest-least js x u.1 (onward j js x e a)))
      (cases_Bool (alike r ls j x))

  pub one-earliest : (ms : List ℕ) (x y : ℕ) → among ms x ≡ true → alike r ls x y ≡ true → earliest r ls ms x ≡ earliest r ls ms y
  one-earliest [] x y a e = absurd (both_ways false refl a)
  one-earliest (j ∷ js) x y a e =
      let both = alike_both j x y e in
      ⊎_elim (λ h. here j js x h ∙ sym (here j js y (sym both ∙ h)))
      (λ h. let k = sym both ∙ h in later j js x h ∙ (one-earliest js x y (onward j js x h a) e ∙ sym (later j js y k)))
      (cases_Bool (alike r ls j x))

module _ (r : Reading) (ls ms : List ℕ) where
  pub earliest-le : Ascends ms → (x : ℕ) → among ms x ≡ true → earliest r ls ms x ≤ x
  earliest-le up x a = earliest-least r ls ms x (up_from ms up) a

  pub earliest-settled : (x : ℕ) → among ms x ≡ true → earliest r ls ms (earliest r ls ms x) ≡ earliest r ls ms x
  earliest-settled x a = one-earliest r ls ms (earliest r ls ms x) x (earliest-kept r ls ms x a) (earliest-alike r ls ms x a)

  pub alike-earliest : (x y : ℕ) → among ms x ≡ true → among ms y ≡ true → alike r ls x y ≡ true → earliest r ls ms x ≡ earliest r ls ms y
  alike-earliest x y a b e = one-earliest r ls ms x y a e

  pub earliest-alikes : (x y : ℕ) → among ms x ≡ true → among ms y ≡ true → earliest r ls ms x ≡ earliest r ls ms y → alike r ls x y ≡ true
  earliest-alikes x y a b e =
      let m = earliest r ls ms x in
      alike-trans r ls x m y (alike-sym r ls m x (earliest-alike r ls ms x a)) (ap (λ n. alike r ls n y) e ∙ earliest-alike r ls ms y b)

  pub earliest_matches : (rs : List ℕ) → Ascends ms → ((x : ℕ) → among rs x ≡ true → among ms x ≡ true) → Earliest rs (earliest r ls ms) (λ x y. alike r ls x y ≡ true)
  earliest_matches rs up part = record {
    never_later = λ x a. earliest-le up x (part x a);
    settled = λ x a. earliest-settled x (part x a);
    one_match = λ x y a b e. alike-earliest x y (part x a) (part y b) e;
    only_alike = λ x y a b e. earliest-alikes x y (part x a) (part y b) e;
  }
