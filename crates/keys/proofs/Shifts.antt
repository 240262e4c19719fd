-- A key written at its place, after those from there on are moved by one. Assumes nothing.
use Rattle.std.proofs.Common.{◌≡◌, ℕ, ◌+◌, ◌-◌, ◌<◌, ◌≤◌, List, ◌++◌, length, take, drop, set, ⊎_elim, arith, rules}
use Rattle.std.specs.List.{insert, CopiedTo, SameBelow, SameFrom}
use Rattle.std.proofs.lemmas.List.{same_lists, places}
use Rattle.std.proofs.lemmas.Grind.{get_or-set_at}
use Rattle.std.proofs.lemmas.Bool.{cases_lt, cases_order}

module _ {X : Type 0} (xs slots : List X) (at end : ℕ) (x : X) (le : at ≤ end) (room : end < length xs) (same : length slots ≡ length xs) where
  pub put_shifted : CopiedTo xs slots at (at + 1) (end - at) → SameBelow xs slots (at + 1) → SameFrom xs slots (at + 1 + (end - at)) → set slots at x ≡ insert (take end xs) at x ++ drop (end + 1) xs
  put_shifted moved below above =
      same_lists _ _ (search (rules, places))
      (λ k d h.
      ⊎_elim
      (λ e. grind (arith, places, get_or-set_at))
      (⊎_elim
      (λ l. let is = below k d (omega arith) in grind (arith, places, is))
      (λ g.
      ⊎_elim
      (λ (n : end < k). let is = above k d (omega arith) in grind (arith, places, is))
      (λ (n : k ≤ end). let is = moved k d (omega arith) (omega arith) in grind (arith, places, is))
      (cases_lt end k)))
      (cases_order k at))
