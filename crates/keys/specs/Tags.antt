-- Four-byte tags: their number, their bytes and their order.
--     coded bs           the number of four bytes, first byte highest
--     spelt n            the four bytes of a number, first byte first
--     TagBefore x y      x has the lower number
--     TagSame x y        the numbers are equal
--     ByBytes x y r      r compares the bytes of x and y, first byte first: the first pair that differs decides
use Rattle.std.specs.Prelude.{◌≡◌, ℕ, ◌+◌, ◌*◌, ◌/◌, ◌%◌, ◌<◌, List, [], ◌∷◌, slice_index}
use Rattle.std.specs.declared.cmp.Ordering.{Ordering}
use Rattle.std.specs.Ordering.{nat_cmp}
use Rattle.std.specs.Cmp.Lexicographic.{slice_cmp}
use Rattle.keys.specs.declared.tags.Tag.{Tag}

abbrev pub coded : List ℕ → ℕ
coded bs = slice_index bs 0 * 16777216 + slice_index bs 1 * 65536 + slice_index bs 2 * 256 + slice_index bs 3

abbrev pub spelt : ℕ → List ℕ
spelt n = (n / 16777216 % 256) ∷ (n / 65536 % 256) ∷ (n / 256 % 256) ∷ (n % 256) ∷ []

abbrev pub TagBefore : Tag → Tag → Type 0
TagBefore x y = x.code < y.code

abbrev pub TagSame : Tag → Tag → Type 0
TagSame x y = x.code ≡ y.code

abbrev pub ByBytes : Tag → Tag → Ordering → Type 0
ByBytes x y r = r ≡ slice_cmp nat_cmp (spelt x.code) (spelt y.code)
