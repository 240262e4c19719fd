-- Keys in order in a slice: what a search and an insertion answer.
--     Ascending before xs            each key is before every later one
--     At P xs i                      i is a place of xs, and P holds of the key there
--     Held same xs x                 some key of xs is the same as x
--     Between before xs x i          each key below i is before x, and x is before each key from i on
--     Only same xs x i               no place but i has a key that is the same as x
--     Found same xs x r              Ok: the place of a same key; Err: a place of xs, or its end
--     Placed before same xs x r      Ok: its only place; Err: no key is the same, and the place is where x would go
--     filled len xs                  the filled part: the first len slots, or all of them
--     Known, Taken, Refused          the three ends of an insertion of x: old and new slots, and the answer
--     Inserted                       one of the three, told from the answer
--     Joined same xs ys x            ys holds what xs holds, and x
use Rattle.std.specs.Prelude.{◌≡◌, ℕ, ◌+◌, ◌<◌, ◌≤◌, ◌⊎◌, List, ◌++◌, length, take, drop, Result, MatchResult, slice_index_or}
use Rattle.std.specs.List.{insert}
use Rattle.keys.specs.declared.slots.Full.{Full}

abbrev pub Ascending : {X : Type 0} → (X → X → Type 0) → List X → Type 0
Ascending {X} before xs = (i j : ℕ) (d : X) → i < j → j < length xs → before (slice_index_or xs i d) (slice_index_or xs j d)

abbrev pub At : {X : Type 0} → (X → Type 0) → List X → ℕ → Type 0
At {X} P xs i = (i < length xs) × ((d : X) → P (slice_index_or xs i d))

abbrev pub Held : {X : Type 0} → (X → X → Type 0) → List X → X → Type 0
Held same xs x = (i : ℕ) × At (λ y. same y x) xs i

abbrev pub Between : {X : Type 0} → (X → X → Type 0) → List X → X → ℕ → Type 0
Between {X} before xs x i = ((k : ℕ) (d : X) → k < i → before (slice_index_or xs k d) x) × ((k : ℕ) (d : X) → i ≤ k → k < length xs → before x (slice_index_or xs k d))

abbrev pub Only : {X : Type 0} → (X → X → Type 0) → List X → X → ℕ → Type 0
Only same xs x i = (k : ℕ) → At (λ y. same y x) xs k → k ≡ i

abbrev pub Found : {X : Type 0} → (X → X → Type 0) → List X → X → Result ℕ ℕ → Type 0
Found same xs x r = MatchResult r (At (λ y. same y x) xs) (λ i. i ≤ length xs)

abbrev pub Placed : {X : Type 0} → (X → X → Type 0) → (X → X → Type 0) → List X → X → Result ℕ ℕ → Type 0
Placed before same xs x r = MatchResult r (Only same xs x) (λ i. (Held same xs x → ⊥) × Between before xs x i)

abbrev pub filled : {X : Type 0} → ℕ → List X → List X
filled len xs = take len xs

pub record Known {X : Type 0} (same : X → X → Type 0) (len : ℕ) (x : X) (old new : List X) (n : ℕ) : Type 0 where
  pub kept : new ≡ old
  pub count : n ≡ length (filled len old)
  pub held : Held same (filled len old) x

pub record Taken {X : Type 0} (before same : X → X → Type 0) (len : ℕ) (x : X) (old new : List X) (n : ℕ) : Type 0 where
  pub place : ℕ
  pub within : place ≤ length (filled len old)
  pub room : length (filled len old) < length old
  pub count : n ≡ length (filled len old) + 1
  pub slots : new ≡ insert (filled len old) place x ++ drop n old
  pub new_key : Ascending before (filled len old) → Held same (filled len old) x → ⊥
  pub sides : Ascending before (filled len old) → Between before (filled len old) x place

pub record Refused {X : Type 0} (before same : X → X → Type 0) (len : ℕ) (x : X) (old new : List X) : Type 0 where
  pub kept : new ≡ old
  pub full : filled len old ≡ old
  pub new_key : Ascending before old → Held same old x → ⊥

abbrev pub Inserted : {X : Type 0} → (X → X → Type 0) → (X → X → Type 0) → ℕ → X → List X → List X → Result ℕ Full → Type 0
Inserted before same len x old new r = MatchResult r (λ n. Known same len x old new n ⊎ Taken before same len x old new n) (λ _. Refused before same len x old new)

abbrev pub Joined : {X : Type 0} → (X → X → Type 0) → List X → List X → X → Type 0
Joined {X} same xs ys x = (y : X) → (Held same ys y → Held same xs y ⊎ same x y) × (Held same xs y ⊎ same x y → Held same ys y)
