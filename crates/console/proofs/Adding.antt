-- What a page has after a call that adds to it, if the call is made.
use Rattle.std.proofs.Common.{◌≡◌, ℕ, List, ◌++◌, IfOk, Result, ap, ◌∙◌}
use Rattle.std.proofs.lemmas.List.{append_assoc}
use Rattle.std.proofs.lemmas.Result.{IfOk-weaker}

module _ {X Y : Type 0} (r : Result X Y) where
  -- s is added to a, and then t
  pub text-then : (a b c s t u : List ℕ) → b ≡ a ++ s → IfOk r (λ _. c ≡ b ++ t) → s ++ t ≡ u → IfOk r (λ _. c ≡ a ++ u)
  text-then a b c s t u first second is =
      IfOk-weaker r (λ _. c ≡ b ++ t) (λ _. c ≡ a ++ u)
      (λ _ e. e ∙ (ap (λ x. x ++ t) first ∙ (append_assoc a s t ∙ ap (λ x. a ++ x) is))) second

  pub column-then : (n m k : ℕ) → IfOk r (λ _. n ≡ m) → m ≡ k → IfOk r (λ _. n ≡ k)
  column-then n m k is then = IfOk-weaker r (λ _. n ≡ m) (λ _. n ≡ k) (λ _ e. e ∙ then) is
