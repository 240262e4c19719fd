-- Numbers in a font file, most significant byte first.
--   short_at b i, long_at b i    the number of 16 or of 32 bits at i
--   short_in b i, long_in b i    the same, where its bytes are there
use Rattle.std.specs.Prelude.{ℕ, ◌+◌, ◌*◌, cond, List, length, Some, None, Option, nat_le, slice_index}

abbrev pub short_at : List ℕ → ℕ → ℕ
short_at b i = slice_index b i * 256 + slice_index b (i + 1)

abbrev pub long_at : List ℕ → ℕ → ℕ
long_at b i = slice_index b i * 16777216 + slice_index b (i + 1) * 65536 + slice_index b (i + 2) * 256 + slice_index b (i + 3)

abbrev pub short_in : List ℕ → ℕ → Option ℕ
short_in b i = cond (nat_le (i + 2) (length b)) (Some (short_at b i)) None

abbrev pub long_in : List ℕ → ℕ → Option ℕ
long_in b i = cond (nat_le (i + 4) (length b)) (Some (long_at b i)) None
