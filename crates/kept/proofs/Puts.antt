-- What one key more makes of a set. Assumes nothing but the laws of a key type.
use Rattle.std.proofs.Common.{◌≡◌, ℕ, ◌≤◌, cond, List, length, is_ok, Ok, Result, sym, ap, ◌∙◌, subst}
use Rattle.std.specs.List.{insert}
use Rattle.keys.specs.Slots.{Ascending, At, Held, Between, Joined}
use Rattle.keys.proofs.Inserts.{ascending-inserted, joined-inserted, joined-known}
use Rattle.keys.specs.Orders.{Ordered}

-- zs is the set as it was searched
module _ {X : Type 0} {before same : X → X → Type 0} (o : Ordered before same) (zs xs : List X) (x : X) (i : ℕ) (e : zs ≡ xs) where
  pub put-known : At (λ y. same y x) zs i → Joined same xs xs x
  put-known at = joined-known o xs x (i, subst (λ l. At (λ y. same y x) l i) e at)

  module _ (ys : List X) {T E : Type 0} (r : Result T E) (u : T) (was : r ≡ Ok u) (is : ys ≡ cond (is_ok r) (insert xs i x) xs) (le : i ≤ length zs) where
    put_in : ys ≡ insert xs i x
    put_in = is ∙ ap (λ q. cond (is_ok q) (insert xs i x) xs) was

    within : i ≤ length xs
    within = subst (λ l. i ≤ length l) e le

    pub put-ascending : (Ascending before zs → (Held same zs x → ⊥) × Between before zs x i) → Ascending before xs → Ascending before ys
    put-ascending placed up =
        let sides = (subst (λ l. Ascending before l → (Held same l x → ⊥) × Between before l x i) e placed up).1 in
        subst (Ascending before) (sym put_in) (ascending-inserted xs i x within before up sides)

    pub put-joined : Joined same xs ys x
    put-joined = subst (λ l. Joined same xs l x) (sym put_in) (joined-inserted xs i x within same)
