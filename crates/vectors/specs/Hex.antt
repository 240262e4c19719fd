-- Hexadecimal digits.
--   digit_by b     the value of a digit, in either case
--   byte_by h l    the byte of two digits
--   Spells ds bs   each byte of bs is that of two digits of ds, in order, and no digit is left
use Rattle.std.specs.Prelude.{◌≡◌, ℕ, ◌+◌, ◌-◌, ◌*◌, ◌<◌, cond, ◌&&◌, List, length, Some, None, Option, nat_le, slice_index}

abbrev pub digit_by : ℕ → Option ℕ
digit_by b =
    cond (nat_le 48 b && nat_le b 57) (Some (b - 48)) (cond (nat_le 97 b && nat_le b 102) (Some (b - 87)) (cond (nat_le 65 b && nat_le b 70) (Some (b - 55)) None))

abbrev pub joined : Option ℕ → Option ℕ → Option ℕ
joined None l = None
joined (Some h) None = None
joined (Some h) (Some l) = Some (h * 16 + l)

abbrev pub byte_by : ℕ → ℕ → Option ℕ
byte_by h l = joined (digit_by h) (digit_by l)

abbrev pub byte_at : List ℕ → ℕ → Option ℕ
byte_at ds k = byte_by (slice_index ds (2 * k)) (slice_index ds (2 * k + 1))

abbrev pub Spells : List ℕ → List ℕ → Type 0
Spells ds bs = (2 * length bs ≡ length ds) × ((k : ℕ) → k < length bs → byte_at ds k ≡ Some (slice_index bs k))
