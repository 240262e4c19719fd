-- Places chained by their buckets.
--   mixed h xs         numbers that are mixed into h, one after the other
--   bucket_in          the bucket of a feature, by its tag and its kept lookups
--   last_in f u b      the last place below u that f puts into bucket b
--   Chained k f v      the chains k hold the places below v, of which f gives the buckets
use Rattle.std.specs.Prelude.{◌≡◌, ℕ, zero, suc, ◌+◌, ◌*◌, ◌%◌, ◌<◌, cond, List, [], ◌∷◌, Some, None, Option, ◌==◌, slice_index_or}
use Rattle.source.specs.Reading.{Reading}
use Rattle.source.specs.Questions.{feature_record}
use Rattle.numbering.specs.declared.chains.Chains.{Chains}
use Rattle.numbering.specs.Stages.{kept_lookups}

abbrev pub mixed : ℕ → List ℕ → ℕ
mixed h [] = h
mixed h (x ∷ xs) = mixed ((h * 31 + (x + 1)) % 65521) xs

abbrev pub bucket_in : Reading → List ℕ → ℕ → ℕ
bucket_in r ls i = mixed ((feature_record r i).tag % 65521) (kept_lookups r ls i) % 239

abbrev pub last_in : (ℕ → ℕ) → ℕ → ℕ → Option ℕ
last_in f zero b = None
last_in f (suc u) b = cond (f u == b) (Some u) (last_in f u b)

pub record Chained (k : Chains) (f : ℕ → ℕ) (v : ℕ) : Type 0 where
  pub from : (b : ℕ) → b < 239 → slice_index_or k.heads b None ≡ last_in f v b
  pub onward : (p : ℕ) → p < v → slice_index_or k.nexts p None ≡ last_in f p (f p)
