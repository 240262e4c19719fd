-- An element of a list, by its place.
use Rattle.std.proofs.Common.{◌≡◌, ℕ, zero, suc, List, [], ◌∷◌, map, get_or, None, Option, sym, refl, ap, ◌∙◌}
use Rattle.std.specs.List.{slice_get}
use Rattle.rows.specs.Format.{value_by}

-- an element of a mapped list
pub getD-map-nth : {X Y : Type 0} (f : X → Y) (e : Y) (xs : List X) (i : ℕ) → get_or (map f xs) i e ≡ value_by f e (slice_get xs i)
getD-map-nth f e [] i = refl
getD-map-nth f e (x ∷ xs) zero = refl
getD-map-nth f e (x ∷ xs) (suc i) = getD-map-nth f e xs i

pub getD-value_by : {X Y : Type 0} (f : X → Y) (e : Y) (xs : List X) (i : ℕ) (o : Option X) → o ≡ slice_get xs i → get_or (map f xs) i e ≡ value_by f e o
getD-value_by f e xs i o h = getD-map-nth f e xs i ∙ sym (ap (value_by f e) h)

-- where there is no element
pub get_or_missing : {X Y : Type 0} (f : X → Y) (e : Y) (xs : List X) (i : ℕ) → None ≡ slice_get xs i → get_or (map f xs) i e ≡ e
get_or_missing f e xs i h = getD-value_by f e xs i None h
