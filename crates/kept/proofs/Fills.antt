-- A set that is filled with a range, number by number.
use Rattle.std.proofs.Common.{◌≡◌, ℕ, ◌+◌, ◌<◌, ◌≤◌, List, subst, inl, inr, ⊎_elim, arith}
use Rattle.std.proofs.lemmas.Bool.{cases_lt}
use Rattle.keys.specs.Slots.{Joined}
use Rattle.kept.specs.Ranges.{Filled}

pub filled_none : (xs : List ℕ) (i : ℕ) → Filled xs xs i i
filled_none xs i n = (inl, ⊎_elim (λ h. h) (λ (a, b). absurd (omega arith)))

pub filled_more : (old mid new : List ℕ) (from i : ℕ) → from ≤ i → Filled old mid from i → Joined (λ x y. x ≡ y) mid new i → Filled old new from (i + 1)
filled_more old mid new from i le f j n = (
  λ h.
      ⊎_elim
      (λ m. ⊎_elim inl (λ (a, b). inr (a, omega arith)) ((f n).0 m))
      (λ (e : i ≡ n). inr (omega arith, omega arith))
      ((j n).0 h),
  ⊎_elim
      (λ o. (j n).1 (inl ((f n).1 (inl o))))
      (λ (a, b).
      ⊎_elim
      (λ (l : n < i). (j n).1 (inl ((f n).1 (inr (a, l)))))
      (λ (g : i ≤ n). let e : i ≡ n = omega arith in (j n).1 (inr e))
      (cases_lt n i)),
)

pub filled-all : (old new : List ℕ) (from i to : ℕ) → i ≡ to → Filled old new from i → Filled old new from to
filled-all old new from i to e f = subst (Filled old new from) e f
