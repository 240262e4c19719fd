-- The steps of the numbering of retained indices.
use Rattle.std.proofs.Common.{◌≡◌, ℕ, ◌+◌, ◌-◌, ◌<◌, ◌≤◌, Bool, true, false, cond, not, ltb, ◌≢◌, List, map, length, get_or, take, drop, set, filter, sym, refl, ap, ◌∙◌, ⊎_elim, arith, below_more}
use Rattle.std.proofs.lemmas.List.Filters.{length-filter_more}
use Rattle.std.proofs.lemmas.List.{drop-set-lt, ext_get_or, get_or_default, get_or-map, get_or-set_other, get_or-set_same, get_or-take, length-map, length-take-le}
use Rattle.std.proofs.lemmas.Bool.{and_from, and_left, and_parts, both_ways, cases_Bool, cases_order, cond-true, cond-false, le-ltb, lt-ltb, ltb-true}
use Rattle.numbering.specs.Numbers.{shares, owners, below, number, Settled}
use Rattle.numbering.specs.Sets.{Ascends, among}
use Rattle.numbering.proofs.Members.{among-decides}
use Rattle.numbering.proofs.Ranks.{up_from, rank-at}

-- the first k indices have their numbers, and own of them are owned
pub record Upto (rs : List ℕ) (f : ℕ → ℕ) (k : ℕ) (ns : List ℕ) (own : ℕ) : Type 0 where
  pub count : own ≡ length (filter (λ x. not (shares rs f x)) (take k rs))
  pub each : (p : ℕ) → p < k → get_or ns p 0 ≡ number rs f (get_or rs p 0)

-- what holds where a turn begins: ns was old
abbrev pub Holds : List ℕ → List ℕ → List ℕ → ℕ → List ℕ → ℕ → Type 0
Holds rs es old k ns own =
    (own ≤ k)
    × (drop (length rs) ns ≡ drop (length rs) old)
    × ((f : ℕ → ℕ) → take (length rs) es ≡ map f rs → Settled rs f → Upto rs f k ns own)

pub place-among : (xs : List ℕ) (k x : ℕ) → k < length xs → get_or xs k 0 ≡ x → among xs x ≡ true
place-among xs k x h e = (among-decides xs x).1 (k, (h, λ d. get_or_default xs k d 0 h ∙ e))

pub among-place : (xs : List ℕ) (x : ℕ) → among xs x ≡ true → (k : ℕ) × (k < length xs) × (get_or xs k 0 ≡ x)
among-place xs x e = let at = (among-decides xs x).0 e in (at.0, at.1.0, at.1.1 0)

-- an earliest match has a number of its own
pub not-shared : (rs : List ℕ) (f : ℕ → ℕ) (y : ℕ) → f y ≡ y → shares rs f y ≡ false
not-shared rs f y e = and_left (ltb (f y) y) (among rs (f y)) (le-ltb (f y) y (omega arith))

pub number-shared : (rs : List ℕ) (f : ℕ → ℕ) (x : ℕ) → f (f x) ≡ f x → shares rs f x ≡ true → number rs f x ≡ number rs f (f x)
number-shared rs f x e s =
    ap (below (owners rs f)) (cond-true (shares rs f x) (f x) x s ∙ sym (cond-false (shares rs f (f x)) (f (f x)) (f x) (not-shared rs f (f x) e)))

pub number-own : (rs : List ℕ) (f : ℕ → ℕ) (x : ℕ) → shares rs f x ≡ false → number rs f x ≡ below (owners rs f) x
number-own rs f x s = ap (below (owners rs f)) (cond-false (shares rs f x) (f x) x s)

module _ (rs : List ℕ) (up : Ascends rs) (k : ℕ) where
  pub ascends-take : k ≤ length rs → Ascends (take k rs)
  ascends-take h i j d a b =
      let inside : j < k = omega (arith, length-take-le k rs h) in
      omega (arith, get_or-take k rs i d (omega arith), get_or-take k rs j d inside, up i j d a (omega arith))

  module _ (h : k < length rs) (f : ℕ → ℕ) where
    found-shares : (q : ℕ) → q < k → get_or rs q 0 ≡ f (get_or rs k 0) → shares rs f (get_or rs k 0) ≡ true
    found-shares q l e =
        let x = get_or rs k 0 in
        let lower : f (get_or rs k 0) < get_or rs k 0 = omega (arith, up q k 0 l h) in
        and_from (ltb (f x) x) (among rs (f x)) (lt-ltb (f x) x lower) (place-among rs q (f x) (omega arith) e)

    lower-before : (q : ℕ) → q < length rs → get_or rs q 0 < get_or rs k 0 → q < k
    lower-before q b l =
        ⊎_elim (λ e. absurd (let same : get_or rs q 0 ≡ get_or rs k 0 = ap (λ n. get_or rs n 0) e in omega arith))
        (⊎_elim (λ m. m) (λ m. absurd (omega (arith, up k q 0 m b))))
        (cases_order q k)

    unfound-owns : among (take k rs) (f (get_or rs k 0)) ≡ false → shares rs f (get_or rs k 0) ≡ false
    unfound-owns e =
        let x = get_or rs k 0 in
        ⊎_elim (λ s. absurd (
        let parts = and_parts (ltb (f x) x) (among rs (f x)) s in
        let at = among-place rs (f x) parts.1 in
        let here : at.0 < k = lower-before at.0 at.1 (omega (arith, at.2, ltb-true (f x) x parts.0)) in
        both_ways (among (take k rs) (f x)) e (place-among (take k rs) at.0 (f x) (omega (arith, length-take-le k rs (omega arith))) (get_or-take k rs at.0 0 here ∙ at.2))))
        (λ s. s)
        (cases_Bool (shares rs f x))

    number-next : shares rs f (get_or rs k 0) ≡ false → number rs f (get_or rs k 0) ≡ length (filter (λ x. not (shares rs f x)) (take k rs))
    number-next s = number-own rs f (get_or rs k 0) s ∙ rank-at (λ x. not (shares rs f x)) rs (up_from rs up) k h

    module _ (ns : List ℕ) (own : ℕ) (room : k < length ns) (done : Upto rs f k ns own) where
      more : (v m : ℕ) (s : Bool) → shares rs f (get_or rs k 0) ≡ s → m ≡ own + cond (not s) 1 0 → v ≡ number rs f (get_or rs k 0) → Upto rs f (k + 1) (set ns k v) m
      more v m s is n e = record {
        count = n ∙ (ap (λ a. a + cond (not s) 1 0) done.count ∙ (ap (λ t. length (filter (λ x. not (shares rs f x)) (take k rs)) + cond (not t) 1 0) (sym is) ∙ sym (length-filter_more (λ x. not (shares rs f x)) rs k 0 h)));
        each = below_more _ _ (λ p l. let apart : p ≢ k = omega arith in get_or-set_other ns k p v 0 apart ∙ done.each p l) (get_or-set_same ns k v 0 room ∙ e);
      }

      shared-more : (q : ℕ) → q < k → get_or rs q 0 ≡ f (get_or rs k 0) → Settled rs f → Upto rs f (k + 1) (set ns k (get_or ns q 0)) own
      shared-more q l e settled =
          let x = get_or rs k 0 in
          let shares-it = found-shares q l e in
          more (get_or ns q 0) own true shares-it (omega arith) (done.each q l ∙ (ap (number rs f) e ∙ sym (number-shared rs f x (settled x (place-among rs k x h refl)) shares-it)))

      own-more : among (take k rs) (f (get_or rs k 0)) ≡ false → Upto rs f (k + 1) (set ns k own) (own + 1)
      own-more e = let s = unfound-owns e in more own (own + 1) false s refl (done.count ∙ sym (number-next s))

-- what the earliest match of an index is
match-at : (rs es : List ℕ) (f : ℕ → ℕ) (k : ℕ) → k < length rs → take (length rs) es ≡ map f rs → get_or es k 0 ≡ f (get_or rs k 0)
match-at rs es f k h e = sym (get_or-take (length rs) es k 0 h) ∙ (ap (λ l. get_or l k 0) e ∙ get_or-map f rs k 0 0 h)

-- one turn

module _ (rs es old ns : List ℕ) (k own : ℕ) (up : Ascends rs) (h : k < length rs) (room : length rs ≤ length ns) (holds : Holds rs es old k ns own) where
  rest-kept : (v : ℕ) → drop (length rs) (set ns k v) ≡ drop (length rs) old
  rest-kept v = drop-set-lt (length rs) ns k v h ∙ holds.1

  pub turn-shared : (q : ℕ) → (q < length (take (k - 0) rs)) × (get_or (take (k - 0) rs) q 0 ≡ get_or es k 0) → Holds rs es old (k + 1) (set ns k (get_or ns q 0)) own
  turn-shared q at =
      let before : q < k = omega (arith, length-take-le (k - 0) rs (omega arith), at.0) in (
        omega arith,
        rest-kept (get_or ns q 0),
        λ f e s. shared-more rs up k h f ns own (omega arith) (holds.2 f e s) q before (sym (get_or-take (k - 0) rs q 0 (omega arith)) ∙ (at.1 ∙ match-at rs es f k h e)) s,
      )

  pub turn-own : among (take (k - 0) rs) (get_or es k 0) ≡ false → Holds rs es old (k + 1) (set ns k own) (own + 1)
  turn-own none =
      let whole : k - 0 ≡ k = omega arith in (
        omega arith,
        rest-kept own,
        λ f e s. own-more rs up k h f ns own (omega arith) (holds.2 f e s) (ap (among (take k rs)) (sym (match-at rs es f k h e)) ∙ (ap (λ n. among (take n rs) (get_or es k 0)) (sym whole) ∙ none)),
      )

module _ (rs : List ℕ) (f : ℕ → ℕ) (k : ℕ) (ns : List ℕ) (own : ℕ) (done : Upto rs f k ns own) (all : k ≡ length rs) where
  pub all-numbers : length rs ≤ length ns → take (length rs) ns ≡ map (number rs f) rs
  all-numbers room =
      let size = length-take-le (length rs) ns room in
      ext_get_or 0 (take (length rs) ns) (map (number rs f) rs) (size ∙ sym (length-map rs (number rs f)))
      (λ p l. let inside : p < length rs = omega (arith, size) in get_or-take (length rs) ns p 0 inside ∙ (done.each p (omega arith) ∙ sym (get_or-map (number rs f) rs p 0 0 inside)))
