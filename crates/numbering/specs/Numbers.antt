-- The numbers of retained indices rs, under f, the earliest match of each.
--   shares      the earliest match of an index is lower and retained
--   owners      the retained indices with a number of their own
--   below       how many numbers of a list are below one
--   target      the index whose number an index has
--   number      how many owners are below its target
--   Settled     an earliest match is its own earliest match
--   Earliest    f gives the earliest match of each retained index, by a relation of indices that are alike
--   Numbered    the laws of numbers ns for rs, of which n are owned
use Rattle.std.specs.Prelude.{◌≡◌, ℕ, ◌<◌, ◌≤◌, Bool, true, false, cond, not, ◌&&◌, ◌⊎◌, List, length, filter, nat_lt, slice_index}
use Rattle.numbering.specs.Sets.{among}

abbrev pub shares : List ℕ → (ℕ → ℕ) → ℕ → Bool
shares rs f x = nat_lt (f x) x && among rs (f x)

abbrev pub owners : List ℕ → (ℕ → ℕ) → List ℕ
owners rs f = filter (λ x. not (shares rs f x)) rs

abbrev pub below : List ℕ → ℕ → ℕ
below xs x = length (filter (λ y. nat_lt y x) xs)

abbrev pub target : List ℕ → (ℕ → ℕ) → ℕ → ℕ
target rs f x = cond (shares rs f x) (f x) x

abbrev pub number : List ℕ → (ℕ → ℕ) → ℕ → ℕ
number rs f x = below (owners rs f) (target rs f x)

abbrev pub Settled : List ℕ → (ℕ → ℕ) → Type 0
Settled rs f = (x : ℕ) → among rs x ≡ true → f (f x) ≡ f x

pub record Earliest (rs : List ℕ) (f : ℕ → ℕ) (Alike : ℕ → ℕ → Type 0) : Type 0 where
  pub never_later : (x : ℕ) → among rs x ≡ true → f x ≤ x
  pub settled : Settled rs f
  pub one_match : (x y : ℕ) → among rs x ≡ true → among rs y ≡ true → Alike x y → f x ≡ f y
  pub only_alike : (x y : ℕ) → among rs x ≡ true → among rs y ≡ true → f x ≡ f y → Alike x y

pub record Numbered (rs : List ℕ) (f : ℕ → ℕ) (Alike : ℕ → ℕ → Type 0) (ns : List ℕ) (n : ℕ) : Type 0 where
  -- every retained index has a number, and the numbers run from 0 to n
  pub each : length ns ≡ length rs
  pub under : (p : ℕ) → p < length rs → slice_index ns p < n
  pub none_missing : (k : ℕ) → k < n → (p : ℕ) × (p < length rs) × (slice_index ns p ≡ k)
  -- own numbers ascend
  pub ascending : (p q : ℕ) → p < q → q < length rs → shares rs f (slice_index rs p) ≡ false → shares rs f (slice_index rs q) ≡ false → slice_index ns p < slice_index ns q
  -- one number for two indices says that they are alike and that their earliest match is retained
  pub shared : (p q : ℕ) → p < length rs → q < length rs → slice_index ns p ≡ slice_index ns q → (slice_index rs p ≡ slice_index rs q) ⊎ (Alike (slice_index rs p) (slice_index rs q) × (among rs (f (slice_index rs p)) ≡ true))
  pub joined : (p q : ℕ) → p < length rs → q < length rs → Alike (slice_index rs p) (slice_index rs q) → among rs (f (slice_index rs p)) ≡ true → slice_index ns p ≡ slice_index ns q
