-- Tests over lists.
--   among xs x     x stands in xs
--   any p xs       p holds of an element of xs
--   passes p o     p holds of the value of o, if it has one
--   somes xs       the values of xs, in order
--   if_among ls x  x, if it stands in ls
--   place_by f o   f of a number that is there
--   equal_lists    two lists have the same numbers in the same order
--   lookup_beside  what stands beside the first key that equals one, in two lists
--   Rises xs       each number of xs is before the next one
--   Ascends xs     each number of xs is before every later one
use Rattle.std.specs.Prelude.{ℕ, ◌+◌, ◌<◌, Bool, true, false, cond, ◌&&◌, ◌||◌, List, [], ◌∷◌, length, Some, None, Option, ◌==◌, slice_index}
use Rattle.keys.specs.Slots.{Ascending}

abbrev pub among : List ℕ → ℕ → Bool
among [] x = false
among (y ∷ ys) x = y == x || among ys x

abbrev pub any : {X : Type 0} → (X → Bool) → List X → Bool
any p [] = false
any p (x ∷ xs) = p x || any p xs

abbrev pub equal_lists : List ℕ → List ℕ → Bool
equal_lists [] [] = true
equal_lists [] (y ∷ ys) = false
equal_lists (x ∷ xs) [] = false
equal_lists (x ∷ xs) (y ∷ ys) = x == y && equal_lists xs ys

abbrev pub passes : {X : Type 0} → (X → Bool) → Option X → Bool
passes p None = false
passes p (Some x) = p x

abbrev pub Rises : List ℕ → Type 0
Rises xs = (i : ℕ) → i + 1 < length xs → slice_index xs i < slice_index xs (i + 1)

abbrev pub Ascends : List ℕ → Type 0
Ascends xs = Ascending (λ x y. x < y) xs

-- the numbers of a list in which some places are left out
abbrev pub somes : List (Option ℕ) → List ℕ
somes [] = []
somes (None ∷ xs) = somes xs
somes (Some x ∷ xs) = x ∷ somes xs

abbrev pub place_by : (ℕ → Option ℕ) → Option ℕ → Option ℕ
place_by f None = None
place_by f (Some x) = f x

abbrev pub if_among : List ℕ → ℕ → Option ℕ
if_among ls x = cond (among ls x) (Some x) None

abbrev pub lookup_beside : {K X : Type 0} → (K → K → Bool) → List K → List X → K → Option X
lookup_beside eq [] xs k = None
lookup_beside eq (j ∷ js) [] k = None
lookup_beside eq (j ∷ js) (x ∷ xs) k = cond (eq k j) (Some x) (lookup_beside eq js xs k)
