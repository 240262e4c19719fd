-- What a key type owes.
--     Ordered before same       of two keys exactly one holds: the first is before the second, they are the same, or the
--                               second is before the first; before and same are transitive
use Rattle.std.specs.Prelude.{◌⊎◌}

pub record Ordered {X : Type 0} (before same : X → X → Type 0) : Type 0 where
  pub total : (x y : X) → before x y ⊎ (same x y ⊎ before y x)
  pub before_not_same : (x y : X) → before x y → same x y → ⊥
  pub before_not_after : (x y : X) → before x y → before y x → ⊥
  pub same_not_after : (x y : X) → same x y → before y x → ⊥
  pub before_trans : (x y z : X) → before x y → before y z → before x z
  pub same_trans : (x y z : X) → same x y → same y z → same x z
