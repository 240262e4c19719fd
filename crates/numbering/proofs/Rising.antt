-- Each number is before the next one exactly when each is before every later one.
use Rattle.std.proofs.Common.{◌≡◌, ℕ, zero, suc, ◌+◌, ◌-◌, ◌<◌, List, length, get_or, ap, subst, arith}
use Rattle.std.proofs.lemmas.List.{get_or_default}
use Rattle.keys.specs.Slots.{Ascending}
use Rattle.numbering.specs.Sets.{Rises, Ascends}

module _ {X : Type 0} (n : X → ℕ) (d : X) (xs : List X) (step : (i : ℕ) → i + 1 < length xs → n (get_or xs i d) < n (get_or xs (i + 1) d)) where
  climbs : (i k : ℕ) → i + (k + 1) < length xs → n (get_or xs i d) < n (get_or xs (i + (k + 1)) d)
  climbs i zero h = step i h
  climbs i (suc k) h =
      let low : i + (k + 1) + 1 < length xs = omega arith in
      let same : i + (k + 1) + 1 ≡ i + (suc k + 1) = omega arith in
      let up : n (get_or xs (i + (k + 1)) d) < n (get_or xs (i + (suc k + 1)) d) = subst (λ j. n (get_or xs (i + (k + 1)) d) < n (get_or xs j d)) same (step (i + (k + 1)) low) in
      omega (arith, climbs i k (omega arith), up)

  pub ascends-by : Ascending (λ x y. n x < n y) xs
  ascends-by i j e h b =
      let gap : i + ((j - i - 1) + 1) ≡ j = omega arith in
      let based : n (get_or xs i d) < n (get_or xs j d) = subst (λ k. n (get_or xs i d) < n (get_or xs k d)) gap (climbs i (j - i - 1) (omega arith)) in
      omega (arith, based, ap n (get_or_default xs i e d (omega arith)), ap n (get_or_default xs j e d b))

pub ascends : (xs : List ℕ) → Rises xs → Ascends xs
ascends xs r = ascends-by (λ x. x) 0 xs r

pub rises : (xs : List ℕ) → Ascends xs → Rises xs
rises xs a i h = a i (i + 1) 0 (omega arith) h
