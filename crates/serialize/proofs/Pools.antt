-- The packed objects by their numbers.
use Rattle.std.proofs.Common.{◌≡◌, ℕ, zero, suc, ◌-◌, ◌<◌, ◌≤◌, List, length, get_or, sym, refl, ap, ◌∙◌, subst, ⊎_elim, arith}
use Rattle.std.proofs.lemmas.Bool.{cases_order}
use Rattle.serialize.specs.declared.tables.Serializer.{Serializer}
use Rattle.serialize.specs.Objects.{Object, none, number, Stands, Absent}
use Rattle.serialize.specs.Tables.{end, entry_at, object_at, pool_to, Chain, Entry}

module _ (w : List ℕ) (s : Serializer) where
  pub length-pool : (n : ℕ) → length (pool_to w s n) ≡ n
  length-pool zero = refl
  length-pool (suc n) = ap suc (length-pool n)

  pub number_of : (n k : ℕ) → k < n → number (pool_to w s n) k ≡ object_at w s k
  number_of zero k lt = absurd (omega arith)
  number_of (suc n) k lt =
      let e = length-pool n in
      ⊎_elim
      (λ (p : k ≡ n). let z : suc (length (pool_to w s n)) - suc k ≡ 0 = omega arith in ap (λ i. get_or (pool_to w s (suc n)) i none) z ∙ ap (object_at w s) (sym p))
      (⊎_elim
      (λ (l : k < n). let z : suc (length (pool_to w s n)) - suc k ≡ suc (length (pool_to w s n) - suc k) = omega arith in ap (λ i. get_or (pool_to w s (suc n)) i none) z ∙ number_of n k l)
      (λ (g : n < k). absurd (omega arith)))
      (cases_order k n)

  pub chain-within : (n h l : ℕ) → Chain w s n h l → (h ≤ end w) × (l ≤ 4096)
  chain-within zero h l (a, b) = (omega arith, omega arith)
  chain-within (suc n) h l (a, b, c, d, m, r) =
      let ih = chain-within n (entry_at s n).tail (entry_at s n).last r in (omega (arith, ih.0), omega (arith, ih.1))

  pub entry_in : (n h l i : ℕ) → Chain w s n h l → i < n → Entry w s h l i
  entry_in zero h l i r lt = absurd (omega arith)
  entry_in (suc n) h l i (a, b, c, d, m, r) lt =
      ⊎_elim
      (λ (p : i ≡ n). let z = chain-within n (entry_at s n).tail (entry_at s n).last r in
      subst (λ k. Entry w s h l k) (sym p) (record { low = omega arith; size = omega arith; high = z.0; link_low = omega arith; link_size = omega arith; link_high = z.1; hashed = m }))
      (⊎_elim
      (λ (q : i < n). let z = entry_in n (entry_at s n).tail (entry_at s n).last i r q in
      record { low = omega (arith, z.low); size = z.size; high = z.high; link_low = omega (arith, z.link_low); link_size = z.link_size; link_high = z.link_high; hashed = z.hashed })
      (λ (g : n < i). absurd (omega arith)))
      (cases_order i n)

  pub absent-from : (n : ℕ) (x : Object) → ((k : ℕ) → k < n → object_at w s k ≡ x → ⊥) → Absent x (pool_to w s n)
  absent-from n x f k (lt, e) = let m : k < n = omega (arith, length-pool n) in f k m (sym (number_of n k m) ∙ e)

  pub stands_from : (n : ℕ) (x : Object) (k : ℕ) → k < n → object_at w s k ≡ x → Stands x (pool_to w s n) k
  stands_from n x k lt e = (omega (arith, length-pool n), number_of n k lt ∙ e)
