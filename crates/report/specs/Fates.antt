-- What becomes of a kept feature i, by survivors s with earliest matches e and retained indices r with numbers n.
--   Lacks xs x     x stands nowhere in xs
--   Stands xs x k  x stands at the place k of xs
--   Like r m i o   o is the match m, if m is not i itself and is retained
--   Fated          which of the four ends it is
use Rattle.std.specs.Prelude.{◌≡◌, ℕ, ◌<◌, ◌≤◌, ◌⊎◌, List, length, Some, None, Option, ◌≢◌, slice_index}
use Rattle.report.specs.declared.fates.Fate.{Fate}
use Rattle.report.specs.declared.fates.Fate.TheVariants.{Dropped, Unread, Unnamed, Numbered}

abbrev pub Lacks : List ℕ → ℕ → Type 0
Lacks xs x = (k : ℕ) → k < length xs → slice_index xs k ≢ x

abbrev pub Stands : List ℕ → ℕ → ℕ → Type 0
Stands xs x k = (k < length xs) × (slice_index xs k ≡ x)

abbrev pub Like : List ℕ → ℕ → ℕ → Option ℕ → Type 0
Like r m i None = (m ≡ i) ⊎ Lacks r m
Like r m i (Some o) = (o ≡ m) × (m ≢ i) × ((q : ℕ) × Stands r m q)

abbrev pub Fated : List ℕ → List ℕ → List ℕ → List ℕ → ℕ → Fate → Type 0
Fated s e r n i Dropped = Lacks s i
Fated s e r n i Unread = (k : ℕ) × Stands s i k × (length e ≤ k)
Fated s e r n i Unnamed = Lacks r i × ((k : ℕ) × Stands s i k × (k < length e))
Fated s e r n i (Numbered number like) =
    ((k : ℕ) × Stands s i k × (k < length e) × Like r (slice_index e k) i like) × ((q : ℕ) × Stands r i q × (number ≡ slice_index n q))
