-- Each key is before the next one exactly when each is before every later one. Assumes nothing but the laws of a key type.
use Rattle.std.proofs.Common.{◌≡◌, ℕ, ◌+◌, ◌-◌, ◌<◌, ◌≤◌, List, length, get_or, Ordering, Less, Equal, Greater, is_lt, true, false, true≢false, sym, subst, ⊎_elim, arith}
use Rattle.std.specs.Ordering.{MatchOrdering}
use Rattle.std.proofs.lemmas.List.{get_or_read}
use Rattle.std.proofs.lemmas.Bool.{cases_lt, cases_order}
use Rattle.keys.specs.Orders.{Ordered}

-- each of the first n keys is before the later ones of them
abbrev pub Rises : {X : Type 0} → (X → X → Type 0) → List X → ℕ → Type 0
Rises {X} before xs n = (i j : ℕ) (d : X) → i < j → j < n → before (get_or xs i d) (get_or xs j d)

module _ {X : Type 0} {before same : X → X → Type 0} (o : Ordered before same) (xs : List X) (n : ℕ) where
  pub rises_more : 0 < n → Rises before xs n → ((d : X) → before (get_or xs (n - 1) d) (get_or xs n d)) → Rises before xs (n + 1)
  rises_more some up next i j d lt below =
      ⊎_elim
      (λ (l : j < n). up i j d lt l)
      (λ (g : n ≤ j).
      let e : j ≡ n = omega arith in
      ⊎_elim
      (λ (f : i ≡ n - 1). subst (λ a. before (get_or xs a d) (get_or xs j d)) (sym f) (subst (λ b. before (get_or xs (n - 1) d) (get_or xs b d)) (sym e) (next d)))
      (⊎_elim
      (λ (l : i < n - 1). subst (λ b. before (get_or xs i d) (get_or xs b d)) (sym e) (o.before_trans _ _ _ (up i (n - 1) d l (omega arith)) (next d)))
      (λ (h : n - 1 < i). absurd (omega arith)))
      (cases_order i (n - 1)))
      (cases_lt j n)

-- what is read at two places
module _ {X : Type 0} (R : X → X → Type 0) (xs : List X) (i j : ℕ) (x y : X) (within_i : i < length xs) (within_j : j < length xs) (x_is : x ≡ get_or xs i x) (y_is : y ≡ get_or xs j y) where
  pub at_both : R x y → (d : X) → R (get_or xs i d) (get_or xs j d)
  at_both r d =
      subst (λ a. R a (get_or xs j d)) (get_or_read xs i x within_i x_is d) (subst (R x) (get_or_read xs j y within_j y_is d) r)

  pub of_both : ((d : X) → R (get_or xs i d) (get_or xs j d)) → R x y
  of_both r =
      subst (λ a. R a y) (sym (get_or_read xs i x within_i x_is y)) (subst (R (get_or xs i y)) (sym (get_or_read xs j y within_j y_is y)) (r y))

pub less : (P Q R : Type 0) (r : Ordering) → MatchOrdering r P Q R → is_lt r ≡ true → P
less P Q R Less p _ = p
less P Q R Equal q e = absurd (true≢false (sym e))
less P Q R Greater q e = absurd (true≢false (sym e))

pub not_less : {X : Type 0} {before same : X → X → Type 0} → Ordered before same → (x y : X) (r : Ordering) → MatchOrdering r (before x y) (same x y) (before y x) → is_lt r ≡ false → before x y → ⊥
not_less o x y Less p e _ = true≢false e
not_less o x y Equal s e b = o.before_not_same x y b s
not_less o x y Greater a e b = o.before_not_after x y b a
