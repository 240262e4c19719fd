-- One step of the search for a record, and its end.
use Rattle.std.proofs.Common.{◌≡◌, ℕ, suc, ◌+◌, ◌-◌, ◌*◌, ◌<◌, ◌≤◌, cond, eqb, List, Some, None, ap, ◌∙◌, arith}
use Rattle.std.proofs.lemmas.Bool.{eq-eqb, ne_eqb, cond-true, cond-false}
use Rattle.font.specs.Numbers.{long_at}
use Rattle.font.specs.Directory.{first_from}

opened : (b : List ℕ) (t k m n : ℕ) → m ≡ suc n → first_from b t k m ≡ cond (eqb (long_at b (12 + 16 * k)) t) (Some (12 + 16 * k)) (first_from b t (k + 1) n)
opened b t k m n e = ap (first_from b t k) e

pub hit : (b : List ℕ) (t k n : ℕ) → k < n → long_at b (12 + 16 * k) ≡ t → first_from b t k (n - k) ≡ Some (12 + 16 * k)
hit b t k n h e =
    opened b t k (n - k) (n - (k + 1)) (omega arith)
    ∙ cond-true (eqb (long_at b (12 + 16 * k)) t) (Some (12 + 16 * k)) (first_from b t (k + 1) (n - (k + 1))) (eq-eqb (long_at b (12 + 16 * k)) t e)

pub miss : (b : List ℕ) (t k n : ℕ) → k < n → (long_at b (12 + 16 * k) ≡ t → ⊥) → first_from b t k (n - k) ≡ first_from b t (k + 1) (n - (k + 1))
miss b t k n h e =
    opened b t k (n - k) (n - (k + 1)) (omega arith)
    ∙ cond-false (eqb (long_at b (12 + 16 * k)) t) (Some (12 + 16 * k)) (first_from b t (k + 1) (n - (k + 1))) (ne_eqb (long_at b (12 + 16 * k)) t e)

pub none_left : (b : List ℕ) (t k n : ℕ) → n ≤ k → first_from b t k (n - k) ≡ None
none_left b t k n h = let e : n - k ≡ 0 = omega arith in ap (first_from b t k) e
