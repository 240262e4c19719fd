-- The laws of the numbers of retained indices.
use Rattle.std.proofs.Common.{◌≡◌, ℕ, zero, suc, ◌<◌, ◌≤◌, Bool, true, false, cond, not, eqb, ltb, ◌⊎◌, List, [], ◌∷◌, map, length, get_or, filter, sym, refl, ap, ◌∙◌, inl, inr, ⊎_elim, arith}
use Rattle.std.proofs.ByRecursion.{All-get_or, all_kept_by, All-weaker}
use Rattle.std.proofs.lemmas.List.{get_or-map, length-map}
use Rattle.std.proofs.lemmas.Bool.{and_from, and_parts, both_ways, cases_Bool, cases_lt, cases_order, cond-true, cond-false, eqb-true, lt-ltb, not_from_false, not-true, or_cases, or_left, or_right}
use Rattle.std.specs.List.{AllByRecursion as All}
use Rattle.numbering.specs.Numbers.{shares, owners, below, target, number, Settled, Earliest, Numbered}
use Rattle.numbering.specs.Sets.{Ascends, among}
use Rattle.numbering.proofs.Ranks.{Up, up_from, below-no, below-yes, none_below}
use Rattle.numbering.proofs.Remapping.{place-among, among-place, not-shared, number-own}

-- what passes a test

among-more : (b : Bool) (y : ℕ) (ys : List ℕ) (x : ℕ) → among ys x ≡ true → among (cond b (y ∷ ys) ys) x ≡ true
among-more true y ys x e = or_right (eqb y x) (among ys x) e
among-more false y ys x e = e

among-kept : (p : ℕ → Bool) (xs : List ℕ) (x : ℕ) → among xs x ≡ true → p x ≡ true → among (filter p xs) x ≡ true
among-kept p [] x e t = e
among-kept p (y ∷ ys) x e t =
    ⊎_elim (λ h.
    let passes : p y ≡ true = ap p (eqb-true y x h) ∙ t in
    ap (λ b. among (cond b (y ∷ filter p ys) (filter p ys)) x) passes ∙ or_left (eqb y x) (among (filter p ys) x) h)
    (λ h. among-more (p y) y (filter p ys) x (among-kept p ys x h t))
    (or_cases (eqb y x) (among ys x) e)

kept_step : (p : ℕ → Bool) (b : Bool) (y : ℕ) (ys zs : List ℕ) (x : ℕ) → p y ≡ b → (among ys x ≡ true → (among zs x ≡ true) × (p x ≡ true)) → among (cond b (y ∷ ys) ys) x ≡ true → (among (y ∷ zs) x ≡ true) × (p x ≡ true)
kept_step p true y ys zs x t h e =
    ⊎_elim (λ s. (or_left (eqb y x) (among zs x) s, ap p (sym (eqb-true y x s)) ∙ t)) (λ s. (or_right (eqb y x) (among zs x) (h s).0, (h s).1)) (or_cases (eqb y x) (among ys x) e)
kept_step p false y ys zs x t h e = (or_right (eqb y x) (among zs x) (h e).0, (h e).1)

kept-among : (p : ℕ → Bool) (xs : List ℕ) (x : ℕ) → among (filter p xs) x ≡ true → (among xs x ≡ true) × (p x ≡ true)
kept-among p [] x e = absurd (both_ways false refl e)
kept-among p (y ∷ ys) x e = kept_step p (p y) y (filter p ys) ys x refl (kept-among p ys x) e

up_step : (b : Bool) (x : ℕ) (xs : List ℕ) → All (λ y. x < y) xs → Up xs → Up (cond b (x ∷ xs) xs)
up_step true x xs a u = (a, u)
up_step false x xs a u = u

up_kept : (p : ℕ → Bool) (xs : List ℕ) → Up xs → Up (filter p xs)
up_kept p [] u = tt
up_kept p (x ∷ xs) u = up_step (p x) x (filter p xs) (all_kept_by p (λ y. x < y) xs u.0) (up_kept p xs u.1)

-- how many are below a number of a list

below_at : (xs : List ℕ) → Up xs → (k : ℕ) → k < length xs → below xs (get_or xs k 0) ≡ k
below_at [] u k h = absurd (omega arith)
below_at (x ∷ xs) u zero h = none_below (x ∷ xs) x (omega arith, All-weaker (λ y. x < y) (λ y. x ≤ y) (λ y l. omega arith) xs u.0)
below_at (x ∷ xs) u (suc k) h = below-yes x xs (get_or xs k 0) (All-get_or (λ y. x < y) xs k 0 (omega arith) u.0) ∙ ap suc (below_at xs u.1 k (omega arith))

below-le : (xs : List ℕ) (x y : ℕ) → x ≤ y → below xs x ≤ below xs y
below-le [] x y h = omega arith
below-le (z ∷ zs) x y h =
    ⊎_elim (λ l. omega (arith, below-yes z zs x l, below-yes z zs y (omega arith), below-le zs x y h))
    (λ l. ⊎_elim (λ m. omega (arith, below-no z zs x l, below-yes z zs y m, below-le zs x y h)) (λ m. omega (arith, below-no z zs x l, below-no z zs y m, below-le zs x y h)) (cases_lt z y))
    (cases_lt z x)

below-lt : (xs : List ℕ) (x y : ℕ) → x < y → among xs x ≡ true → below xs x < below xs y
below-lt [] x y h e = absurd (both_ways false refl e)
below-lt (z ∷ zs) x y h e =
    ⊎_elim (λ s. let same : z ≡ x = eqb-true z x s in omega (arith, below-no z zs x (omega arith), below-yes z zs y (omega arith), below-le zs x y (omega arith)))
    (λ s.
    let onward = below-lt zs x y h s in
    ⊎_elim (λ l. omega (arith, below-yes z zs x l, below-yes z zs y (omega arith)))
    (λ l. ⊎_elim (λ m. omega (arith, below-no z zs x l, below-yes z zs y m)) (λ m. omega (arith, below-no z zs x l, below-no z zs y m)) (cases_lt z y))
    (cases_lt z x))
    (or_cases (eqb z x) (among zs x) e)

below_all : (xs : List ℕ) (x : ℕ) → below xs x ≤ length xs
below_all [] x = omega arith
below_all (z ∷ zs) x = ⊎_elim (λ l. omega (arith, below-yes z zs x l, below_all zs x)) (λ l. omega (arith, below-no z zs x l, below_all zs x)) (cases_lt z x)

below-some : (xs : List ℕ) (x : ℕ) → among xs x ≡ true → below xs x < length xs
below-some [] x e = absurd (both_ways false refl e)
below-some (z ∷ zs) x e =
    ⊎_elim (λ s. let same : z ≡ x = eqb-true z x s in omega (arith, below-no z zs x (omega arith), below_all zs x))
    (λ s.
    let onward = below-some zs x s in
    ⊎_elim (λ l. omega (arith, below-yes z zs x l)) (λ l. omega (arith, below-no z zs x l)) (cases_lt z x))
    (or_cases (eqb z x) (among zs x) e)

below-same : (xs : List ℕ) (x y : ℕ) → among xs x ≡ true → among xs y ≡ true → below xs x ≡ below xs y → x ≡ y
below-same xs x y a b e =
    ⊎_elim (λ s. s)
    (⊎_elim (λ l. absurd (omega (arith, below-lt xs x y l a, e))) (λ l. absurd (omega (arith, below-lt xs y x l b, e))))
    (cases_order x y)

-- the laws

module _ (rs : List ℕ) (f : ℕ → ℕ) (settled : Settled rs f) where
  target-shared : (x : ℕ) → shares rs f x ≡ true → target rs f x ≡ f x
  target-shared x s = cond-true (shares rs f x) (f x) x s

  target-own : (x : ℕ) → shares rs f x ≡ false → target rs f x ≡ x
  target-own x s = cond-false (shares rs f x) (f x) x s

  owner : (x : ℕ) → among rs x ≡ true → shares rs f x ≡ false → among (owners rs f) x ≡ true
  owner x a s = among-kept (λ y. not (shares rs f y)) rs x a (not_from_false (shares rs f x) s)

  target-owner : (x : ℕ) → among rs x ≡ true → among (owners rs f) (target rs f x) ≡ true
  target-owner x a =
      ⊎_elim (λ s. ap (among (owners rs f)) (target-shared x s) ∙ owner (f x) (and_parts (ltb (f x) x) (among rs (f x)) s).1 (not-shared rs f (f x) (settled x a)))
      (λ s. ap (among (owners rs f)) (target-own x s) ∙ owner x a s)
      (cases_Bool (shares rs f x))

  same_target : (x y : ℕ) → among rs x ≡ true → among rs y ≡ true → number rs f x ≡ number rs f y → target rs f x ≡ target rs f y
  same_target x y a b e = below-same (owners rs f) (target rs f x) (target rs f y) (target-owner x a) (target-owner y b) e

  -- every own number is an index's
  owned : Ascends rs → (k : ℕ) → k < length (owners rs f) → (p : ℕ) × (p < length rs) × (number rs f (get_or rs p 0) ≡ k)
  owned up k h =
      let os = owners rs f in
      let x = get_or (owners rs f) k 0 in
      let kept = kept-among (λ y. not (shares rs f y)) rs x (place-among os k x h refl) in
      let at = among-place rs x kept.0 in
      (at.0, at.1, ap (number rs f) at.2 ∙ (number-own rs f x (not-true (shares rs f x) kept.1) ∙ below_at os (up_kept (λ y. not (shares rs f y)) rs (up_from rs up)) k h))

module _ (rs : List ℕ) (f : ℕ → ℕ) (Alike : ℕ → ℕ → Type 0) (found : Earliest rs f Alike) where
  -- indices of one number
  alike-target : (x y : ℕ) → among rs x ≡ true → among rs y ≡ true → target rs f x ≡ target rs f y → (x ≡ y) ⊎ (Alike x y × (among rs (f x) ≡ true))
  alike-target x y a b e =
      let retained : (z : ℕ) → shares rs f z ≡ true → among rs (f z) ≡ true = λ z s. (and_parts (ltb (f z) z) (among rs (f z)) s).1 in
      let to = target-shared rs f found.settled in
      let own = target-own rs f found.settled in
      ⊎_elim (λ s.
      ⊎_elim (λ t. inr (found.only_alike x y a b (sym (to x s) ∙ (e ∙ to y t)), retained x s))
      (λ t.
      let match : f x ≡ y = sym (to x s) ∙ (e ∙ own y t) in
      inr (found.only_alike x y a b (sym (found.settled x a) ∙ ap f match), retained x s))
      (cases_Bool (shares rs f y)))
      (λ s.
      ⊎_elim (λ t.
      let match : x ≡ f y = sym (own x s) ∙ (e ∙ to y t) in
      let same : f x ≡ f y = ap f match ∙ found.settled y b in
      inr (found.only_alike x y a b same, ap (among rs) same ∙ retained y t))
      (λ t. inl (sym (own x s) ∙ (e ∙ own y t)))
      (cases_Bool (shares rs f y)))
      (cases_Bool (shares rs f x))

  target-match : (x : ℕ) → among rs x ≡ true → among rs (f x) ≡ true → target rs f x ≡ f x
  target-match x a m =
      ⊎_elim (λ l. target-shared rs f found.settled x (and_from (ltb (f x) x) (among rs (f x)) (lt-ltb (f x) x l) m))
      (λ l.
      let same : f x ≡ x = omega (arith, found.never_later x a) in
      target-own rs f found.settled x (not-shared rs f x same) ∙ sym same)
      (cases_lt (f x) x)

  one_number : (x y : ℕ) → among rs x ≡ true → among rs y ≡ true → Alike x y → among rs (f x) ≡ true → number rs f x ≡ number rs f y
  one_number x y a b k m =
      let same = found.one_match x y a b k in
      ap (below (owners rs f)) (target-match x a m ∙ (same ∙ sym (target-match y b (ap (among rs) (sym same) ∙ m))))

pub numbered : (rs : List ℕ) (f : ℕ → ℕ) (Alike : ℕ → ℕ → Type 0) → Ascends rs → Earliest rs f Alike → Numbered rs f Alike (map (number rs f) rs) (length (owners rs f))
numbered rs f Alike up found =
    let here : (p : ℕ) → p < length rs → among rs (get_or rs p 0) ≡ true = λ p h. place-among rs p (get_or rs p 0) h refl in
    let at : (p : ℕ) → p < length rs → get_or (map (number rs f) rs) p 0 ≡ number rs f (get_or rs p 0) = λ p h. get_or-map (number rs f) rs p 0 0 h in
    record {
      each = length-map rs (number rs f);
      under = λ p h. omega (arith, at p h, below-some (owners rs f) (target rs f (get_or rs p 0)) (target-owner rs f found.settled (get_or rs p 0) (here p h)));
      none_missing = λ k h. let found_at = owned rs f found.settled up k h in (found_at.0, found_at.1, at found_at.0 found_at.1 ∙ found_at.2);
      ascending = λ p q l h s t.
          let x = get_or rs p 0 in
          let y = get_or rs q 0 in
          let before : p < length rs = omega arith in
          omega (arith, at p before, at q h, number-own rs f x s, number-own rs f y t, below-lt (owners rs f) x y (up p q 0 l h) (owner rs f found.settled x (here p before) s));
      shared = λ p q h l e.
          let x = get_or rs p 0 in
          let y = get_or rs q 0 in
          alike-target rs f Alike found x y (here p h) (here q l) (same_target rs f found.settled x y (here p h) (here q l) (sym (at p h) ∙ (e ∙ at q l)));
      joined = λ p q h l k m.
          let x = get_or rs p 0 in
          let y = get_or rs q 0 in
          at p h ∙ (one_number rs f Alike found x y (here p h) (here q l) k m ∙ sym (at q l));
    }
