-- How many numbers of a list are below one.
use Rattle.std.proofs.Common.{◌≡◌, ℕ, zero, suc, ◌<◌, ◌≤◌, Bool, true, false, cond, ltb, List, [], ◌∷◌, length, get_or, take, filter, refl, ap, ◌∙◌, arith}
use Rattle.std.proofs.ByRecursion.{All-from_get_or, All-get_or, all_kept_by, All-weaker}
use Rattle.std.proofs.lemmas.Bool.{lt-ltb, le-ltb}
use Rattle.std.specs.List.{AllByRecursion as All}
use Rattle.numbering.specs.Numbers.{below}
use Rattle.numbering.specs.Sets.{Ascends}

-- each number is before all that follow
abbrev pub Up : List ℕ → Type 0
Up [] = Unit {0}
Up (x ∷ xs) = All (λ y. x < y) xs × Up xs

pub up_from : (xs : List ℕ) → Ascends xs → Up xs
up_from [] a = tt
up_from (x ∷ xs) a =
    (All-from_get_or (λ y. x < y) xs 0 (λ i h. a 0 (suc i) 0 (omega arith) (omega arith)), up_from xs (λ i j d h l. a (suc i) (suc j) d (omega arith) (omega arith)))

pub below-no : (y : ℕ) (ys : List ℕ) (x : ℕ) → x ≤ y → below (y ∷ ys) x ≡ below ys x
below-no y ys x h = ap (λ t. length (cond t (y ∷ filter (λ z. ltb z x) ys) (filter (λ z. ltb z x) ys))) (le-ltb y x h)

pub below-yes : (y : ℕ) (ys : List ℕ) (x : ℕ) → y < x → below (y ∷ ys) x ≡ suc (below ys x)
below-yes y ys x h = ap (λ t. length (cond t (y ∷ filter (λ z. ltb z x) ys) (filter (λ z. ltb z x) ys))) (lt-ltb y x h)

pub none_below : (xs : List ℕ) (x : ℕ) → All (λ y. x ≤ y) xs → below xs x ≡ 0
none_below [] x h = refl
none_below (y ∷ ys) x h = below-no y ys x h.0 ∙ none_below ys x h.1

rank_step : (b : Bool) (x : ℕ) (ys zs : List ℕ) (v : ℕ) → x < v → below ys v ≡ length zs → below (cond b (x ∷ ys) ys) v ≡ length (cond b (x ∷ zs) zs)
rank_step true x ys zs v l e = below-yes x ys v l ∙ ap suc e
rank_step false x ys zs v l e = e

-- of those that pass a test, the ones below the number at a place stand before it
pub rank-at : (p : ℕ → Bool) (xs : List ℕ) → Up xs → (k : ℕ) → k < length xs → below (filter p xs) (get_or xs k 0) ≡ length (filter p (take k xs))
rank-at p [] u k h = absurd (omega arith)
rank-at p (x ∷ xs) u zero h =
    none_below (filter p (x ∷ xs)) x (all_kept_by p (λ y. x ≤ y) (x ∷ xs) (omega arith, All-weaker (λ y. x < y) (λ y. x ≤ y) (λ y l. omega arith) xs u.0))
rank-at p (x ∷ xs) u (suc k) h =
    rank_step (p x) x (filter p xs) (filter p (take k xs)) (get_or xs k 0) (All-get_or (λ y. x < y) xs k 0 (omega arith) u.0) (rank-at p xs u.1 k (omega arith))

pub place-le : (xs : List ℕ) → Ascends xs → (k : ℕ) → k < length xs → k ≤ get_or xs k 0
place-le xs a zero h = omega arith
place-le xs a (suc k) h = omega (arith, place-le xs a k (omega arith), a k (suc k) 0 (omega arith) h)
