-- What the laws of a key type give. Assumes nothing but those laws.
use Rattle.std.proofs.Common.{⊎_elim}
use Rattle.keys.specs.Orders.{Ordered}

module _ {X : Type 0} {before same : X → X → Type 0} (o : Ordered before same) where
  pub before-irreflexive : (x : X) → before x x → ⊥
  before-irreflexive x b = o.before_not_after x x b b

  pub same_refl : (x : X) → same x x
  same_refl x =
      ⊎_elim (λ b. absurd (before-irreflexive x b)) (⊎_elim (λ s. s) (λ b. absurd (before-irreflexive x b))) (o.total x x)

  pub same-sym : (x y : X) → same x y → same y x
  same-sym x y s =
      ⊎_elim
      (λ b. absurd (o.same_not_after x y s b))
      (⊎_elim (λ t. t) (λ b. absurd (o.before_not_same x y b s)))
      (o.total y x)

  -- before respects same, on either side
  pub before_same : (x y z : X) → before x y → same y z → before x z
  before_same x y z b s =
      ⊎_elim
      (λ a. a)
      (⊎_elim
      (λ t. absurd (o.before_not_same x y b (o.same_trans x z y t (same-sym y z s))))
      (λ a. absurd (o.same_not_after y z s (o.before_trans z x y a b))))
      (o.total x z)

  pub same-before : (x y z : X) → same x y → before y z → before x z
  same-before x y z s b =
      ⊎_elim
      (λ a. a)
      (⊎_elim
      (λ t. absurd (o.before_not_same y z b (o.same_trans y x z (same-sym x y s) t)))
      (λ a. absurd (o.same_not_after x y s (o.before_trans y z x b a))))
      (o.total x z)
