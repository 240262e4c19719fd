-- The steps of a search in keys that ascend. Assumes nothing but the laws of a key type.
use Rattle.std.proofs.Common.{◌≡◌, ℕ, ◌+◌, ◌<◌, ◌≤◌, List, length, get_or, Result, Ok, Err, true, true≢false, is_ok, refl, sym, subst, ⊎_elim, arith}
use Rattle.keys.specs.Slots.{Ascending, At, Held, Between, Only, Found, Placed}
use Rattle.std.proofs.lemmas.List.{get_or_read}
use Rattle.std.proofs.lemmas.Bool.{cases_lt, cases_order}
use Rattle.keys.specs.Orders.{Ordered}
use Rattle.keys.proofs.Orders.{before_same}

-- x lies from low up to high, if xs ascends
pub record Narrowed {X : Type 0} (before : X → X → Type 0) (xs : List X) (x : X) (low high : ℕ) : Type 0 where
  pub ordered : low ≤ high
  pub within : high ≤ length xs
  pub below : Ascending before xs → (k : ℕ) (d : X) → k < low → before (get_or xs k d) x
  pub above : Ascending before xs → (k : ℕ) (d : X) → high ≤ k → k < length xs → before x (get_or xs k d)

-- what holds of an element that was read holds of its place
pub at_read : {X : Type 0} (P : X → Type 0) (xs : List X) (i : ℕ) (y : X) → i < length xs → y ≡ get_or xs i y → P y → At P xs i
at_read P xs i y lt read p = (lt, λ d. subst P (get_or_read xs i y lt read d) p)

-- nothing is left to look at
pub sides : {X : Type 0} {before : X → X → Type 0} {xs : List X} {x : X} → Ascending before xs → (low high : ℕ) → Narrowed before xs x low high → high ≤ low → Between before xs x low
sides up low high n le = (n.below up, λ k d a w. n.above up k d (omega arith) w)

module _ {X : Type 0} {before same : X → X → Type 0} (o : Ordered before same) (xs : List X) (x : X) where
  -- the key at mid is before x
  pub narrowed-less : (low high mid : ℕ) → Narrowed before xs x low high → mid < high → At (λ y. before y x) xs mid → Narrowed before xs x (mid + 1) high
  narrowed-less low high mid n lt at = record {
    ordered = omega arith;
    within = n.within;
    below = λ up k d below.
        ⊎_elim
        (λ e. subst (λ m. before (get_or xs m d) x) (sym e) (at.1 d))
        (⊎_elim (λ l. o.before_trans _ _ _ (up k mid d l at.0) (at.1 d)) (λ g. absurd (omega arith)))
        (cases_order k mid);
    above = n.above;
  }

  -- x is before the key at mid
  pub narrowed-greater : (low high mid : ℕ) → Narrowed before xs x low high → low ≤ mid → At (λ y. before x y) xs mid → Narrowed before xs x low mid
  narrowed-greater low high mid n le at = record {
    ordered = le;
    within = omega (arith, at.0);
    below = n.below;
    above = λ up k d above within.
        ⊎_elim
        (λ e. subst (λ m. before x (get_or xs m d)) (sym e) (at.1 d))
        (⊎_elim (λ l. absurd (omega arith)) (λ g. o.before_trans _ _ _ (at.1 d) (up mid k d g within)))
        (cases_order k mid);
  }

  apart : Ascending before xs → (i j : ℕ) → i < j → At (λ y. same y x) xs i → At (λ y. same y x) xs j → ⊥
  apart up i j lt a b =
      o.before_not_same _ _ (before_same o _ _ _ (up i j x lt b.0) (b.1 x)) (a.1 x)

  pub only : Ascending before xs → (i : ℕ) → At (λ y. same y x) xs i → Only same xs x i
  only up i at k here =
      ⊎_elim
      (λ e. e)
      (⊎_elim (λ l. absurd (apart up k i l here at)) (λ g. absurd (apart up i k g at here)))
      (cases_order k i)

  -- a key between those of xs is none of them
  pub missing : Ascending before xs → (i : ℕ) → Between before xs x i → Held same xs x → ⊥
  missing up i b (k, at) =
      ⊎_elim
      (λ l. o.before_not_same _ _ (b.0 k x l) (at.1 x))
      (λ le. o.same_not_after _ _ (at.1 x) (b.1 k x le at.0))
      (cases_lt k i)

-- whether a search found the key
pub held : {X : Type 0} (before same : X → X → Type 0) (xs : List X) (x : X) (r : Result ℕ ℕ) → Found same xs x r → (Ascending before xs → Placed before same xs x r) → (is_ok r ≡ true → Held same xs x) × (Ascending before xs → Held same xs x → is_ok r ≡ true)
held before same xs x (Ok i) at _ = (λ _. (i, at), λ _ _. refl)
held before same xs x (Err i) _ none = (λ e. absurd (true≢false (sym e)), λ up h. absurd ((none up).0 h))
