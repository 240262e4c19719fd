-- A list that a loop writes at the front of a slice.
use Rattle.std.proofs.Common.{◌≡◌, ℕ, ◌+◌, ◌<◌, ◌≤◌, Bool, true, false, cond, List, [], ◌∷◌, ◌++◌, length, get_or, take, drop, set, sym, refl, ap, ◌∙◌}
use Rattle.std.proofs.lemmas.List.{append_assoc, append-nil, take_more_set, drop_more, drop_all}
use Rattle.numbering.specs.Context.{chosen}

-- one more element is written
pub written-more : {X : Type 0} (out : List X) (n : ℕ) (x : X) (rest whole : List X) → n < length out → take n out ++ x ∷ rest ≡ whole → take (n + 1) (set out n x) ++ rest ≡ whole
written-more out n x rest whole h e = ap (λ xs. xs ++ rest) (take_more_set out n x h) ∙ append_assoc (take n out) (x ∷ []) rest ∙ e

-- numbers with flags, one by one

chosen_at : (bs : List Bool) (xs : List ℕ) (p : ℕ) → p < length bs → p < length xs → chosen (drop p bs) (drop p xs) ≡ cond (get_or bs p false) (get_or xs p 0 ∷ chosen (drop (p + 1) bs) (drop (p + 1) xs)) (chosen (drop (p + 1) bs) (drop (p + 1) xs))
chosen_at bs xs p h k = ap (λ l. chosen l (drop p xs)) (drop_more bs p false h) ∙ ap (chosen (get_or bs p false ∷ drop (p + 1) bs)) (drop_more xs p 0 k)

module _ (bs : List Bool) (xs : List ℕ) (p : ℕ) (h : p < length bs) (k : p < length xs) where
  pub picked : get_or bs p false ≡ true → chosen (drop p bs) (drop p xs) ≡ get_or xs p 0 ∷ chosen (drop (p + 1) bs) (drop (p + 1) xs)
  picked e = chosen_at bs xs p h k ∙ ap (λ b. cond b (get_or xs p 0 ∷ chosen (drop (p + 1) bs) (drop (p + 1) xs)) (chosen (drop (p + 1) bs) (drop (p + 1) xs))) e

  pub passed : get_or bs p false ≡ false → chosen (drop p bs) (drop p xs) ≡ chosen (drop (p + 1) bs) (drop (p + 1) xs)
  passed e = chosen_at bs xs p h k ∙ ap (λ b. cond b (get_or xs p 0 ∷ chosen (drop (p + 1) bs) (drop (p + 1) xs)) (chosen (drop (p + 1) bs) (drop (p + 1) xs))) e

chosen-nothing : (bs : List Bool) → chosen bs [] ≡ []
chosen-nothing [] = refl
chosen-nothing (b ∷ bs) = refl

chosen_none : (bs : List Bool) (xs : List ℕ) (p : ℕ) → length xs ≤ p → chosen (drop p bs) (drop p xs) ≡ []
chosen_none bs xs p h = ap (chosen (drop p bs)) (drop_all p xs h) ∙ chosen-nothing (drop p bs)

pub all-chosen : (bs : List Bool) (xs : List ℕ) (p : ℕ) (front whole : List ℕ) → length xs ≤ p → front ++ chosen (drop p bs) (drop p xs) ≡ whole → front ≡ whole
all-chosen bs xs p front whole h e = sym (append-nil front) ∙ (sym (ap (λ l. front ++ l) (chosen_none bs xs p h)) ∙ e)

pub ruleset choosing = (picked, passed, written-more)
