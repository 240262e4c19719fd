-- A list in text, whose parts stand between commas, and the set that it gives.
--   Listed bs P              bs is some parts with commas between them, and P holds of the parts
--   Gains same old new P     new has what old has, and the keys of which P holds
--   Covers same says has ps xs k   each of the first k parts says something whose keys xs has, and xs has no others
use Rattle.std.specs.Prelude.{◌≡◌, ℕ, ◌<◌, ◌⊎◌, List, [], slice_index_or}
use Rattle.std.specs.List.{join_with_byte}
use Rattle.keys.specs.Slots.{Held}

abbrev pub Listed : List ℕ → (List (List ℕ) → Type 0) → Type 0
Listed bs P = (ps : List (List ℕ)) × (bs ≡ join_with_byte 44 ps) × P ps

abbrev pub Gains : {X : Type 0} → (X → X → Type 0) → List X → List X → (X → Type 0) → Type 0
Gains {X} same old new P = (x : X) → (Held same new x → Held same old x ⊎ P x) × (Held same old x ⊎ P x → Held same new x)

abbrev pub Covers : {W X : Type 0} → (X → X → Type 0) → (List ℕ → W → Type 0) → (W → X → Type 0) → List (List ℕ) → List X → ℕ → Type 0
Covers {W} {X} same says has ps xs k =
    ((i : ℕ) → i < k → (w : W) × says (slice_index_or ps i []) w × ((x : X) → has w x → Held same xs x))
    × ((x : X) → Held same xs x → (i : ℕ) × (i < k) × (w : W) × says (slice_index_or ps i []) w × has w x)
