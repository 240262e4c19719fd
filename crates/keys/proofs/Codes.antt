-- A number of 32 bits and its four bytes. Assumes nothing.
use Rattle.std.proofs.Common.{◌≡◌, ℕ, ◌+◌, ◌*◌, ◌/◌, ◌%◌, ◌^◌, ◌<◌, List, [], ◌∷◌, length, get_or, Ordering, Less, Equal, Greater, sym, ap, ◌∙◌, ⊎_elim, arith}
use native.Mathlib.Nat.{div-div-eq-div-mul}
use Rattle.std.specs.Cmp.Lexicographic.{slice_cmp}
use Rattle.std.specs.Cmp.{nat_cmp_is}
use Rattle.std.specs.Ordering.{MatchOrdering, nat_cmp, ordering_then}
use Rattle.std.proofs.lemmas.List.{same_lists, places}
use Rattle.std.proofs.lemmas.Bool.{cases_order}
use Rattle.keys.specs.Tags.{coded, spelt}

digit-next : (n k : ℕ) → n / k ≡ n / (k * 256) * 256 + n / k % 256
digit-next n k = let e = div-div-eq-div-mul n k 256 in omega (arith, e)

from-digits : (n m k j d c b a : ℕ) → n ≡ m * 256 + d → m ≡ k * 256 + c → k ≡ j * 256 + b → a ≡ j → a * 16777216 + b * 65536 + c * 256 + d ≡ n
from-digits n m k j d c b a e3 e2 e1 e0 = omega arith

-- the number of the bytes of a number
pub coded-spelt : (n : ℕ) → n < 2 ^ 32 → coded (spelt n) ≡ n
coded-spelt n lt =
    let last : n ≡ n / 256 * 256 + n % 256 = omega arith in
    let third : n / 256 ≡ n / 65536 * 256 + n / 256 % 256 = digit-next n 256 in
    let second : n / 65536 ≡ n / 16777216 * 256 + n / 65536 % 256 = digit-next n 65536 in
    let first : n / 16777216 % 256 ≡ n / 16777216 = omega arith in
    from-digits n (n / 256) (n / 65536) (n / 16777216) _ _ _ _ last third second first

four : (bs : List ℕ) → length bs ≡ 4 → bs ≡ get_or bs 0 0 ∷ get_or bs 1 0 ∷ get_or bs 2 0 ∷ get_or bs 3 0 ∷ []
four bs n = same_lists _ _ n (λ k d h. grind (arith, places))

-- the bytes of the number n of four bytes
pub spelt_code : (n : ℕ) (bs : List ℕ) → n ≡ coded bs → length bs ≡ 4 → get_or bs 0 0 < 256 → get_or bs 1 0 < 256 → get_or bs 2 0 < 256 → get_or bs 3 0 < 256 → spelt n ≡ bs
spelt_code n bs is long h0 h1 h2 h3 =
    let e0 : n / 16777216 % 256 ≡ get_or bs 0 0 = omega arith in
    let e1 : n / 65536 % 256 ≡ get_or bs 1 0 = omega arith in
    let e2 : n / 256 % 256 ≡ get_or bs 2 0 = omega arith in
    let e3 : n % 256 ≡ get_or bs 3 0 = omega arith in
    let f = four bs long in
    cc

abbrev Compares : ℕ → ℕ → Ordering → Type 0
Compares a b r = MatchOrdering r (a < b) (a ≡ b) (b < a)

-- one pair of bytes decides, or leaves it to the next
step : (a b x y : ℕ) (r q : Ordering) → Compares a b r → (x < y → a < b) → (y < x → b < a) → (x ≡ y → r ≡ q) → r ≡ ordering_then (nat_cmp x y) q
step a b x y r q h lt gt eq =
    let is = nat_cmp_is a b r h in
    ⊎_elim
    (λ e. let same : nat_cmp x y ≡ Equal = sym (nat_cmp_is x y Equal e) in eq e ∙ ap (λ o. ordering_then o q) (sym same))
    (⊎_elim
    (λ l. is ∙ (sym (nat_cmp_is a b Less (lt l)) ∙ ap (λ o. ordering_then o q) (nat_cmp_is x y Less l)))
    (λ g. is ∙ (sym (nat_cmp_is a b Greater (gt g)) ∙ ap (λ o. ordering_then o q) (nat_cmp_is x y Greater g))))
    (cases_order x y)

module _ (a b a0 a1 a2 a3 b0 b1 b2 b3 : ℕ) (r : Ordering) (h : Compares a b r)
    (ea : coded (a0 ∷ a1 ∷ a2 ∷ a3 ∷ []) ≡ a) (eb : coded (b0 ∷ b1 ∷ b2 ∷ b3 ∷ []) ≡ b) (fa : (a1 < 256) × (a2 < 256) × (a3 < 256))
    (fb : (b1 < 256) × (b2 < 256) × (b3 < 256)) where
  by_digits : r ≡ slice_cmp nat_cmp (a0 ∷ a1 ∷ a2 ∷ a3 ∷ []) (b0 ∷ b1 ∷ b2 ∷ b3 ∷ [])
  by_digits =
      step a b a0 b0 r _ h (λ l. omega arith) (λ l. omega arith)
      (λ e0. step a b a1 b1 r _ h (λ l. omega arith) (λ l. omega arith)
      (λ e1. step a b a2 b2 r _ h (λ l. omega arith) (λ l. omega arith)
      (λ e2. step a b a3 b3 r _ h (λ l. omega arith) (λ l. omega arith)
      (λ e3. let e : a ≡ b = omega arith in nat_cmp_is a b r h ∙ sym (nat_cmp_is a b Equal e)))))

-- two numbers compare as their bytes do, first byte first
pub by_bytes : (a b : ℕ) (r : Ordering) → a < 2 ^ 32 → b < 2 ^ 32 → Compares a b r → r ≡ slice_cmp nat_cmp (spelt a) (spelt b)
by_bytes a b r fa fb h =
    by_digits a b _ _ _ _ _ _ _ _ r h (coded-spelt a fa) (coded-spelt b fb)
    (omega arith, omega arith, omega arith)
    (omega arith, omega arith, omega arith)
