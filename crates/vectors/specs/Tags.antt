-- Tags as hexadecimal digits.
--   Byte ds t k       the digits ds give the byte of the tag t at the place k
--   SpellsTag ds t    the eight digits ds give the four bytes of the tag t
--   HasTag t x        x is the tag of t
use Rattle.std.specs.Prelude.{◌≡◌, ℕ, List, length, Some, slice_index}
use Rattle.keys.specs.Tags.{spelt, TagSame}
use Rattle.keys.specs.declared.tags.Tag.{Tag}
use Rattle.vectors.specs.Hex.{byte_at}
use Rattle.vectors.specs.declared.hex.HexTag.{HexTag}

abbrev pub Byte : List ℕ → HexTag → ℕ → Type 0
Byte ds t k = byte_at ds k ≡ Some (slice_index (spelt t.0.code) k)

abbrev pub SpellsTag : List ℕ → HexTag → Type 0
SpellsTag ds t = (length ds ≡ 8) × Byte ds t 0 × Byte ds t 1 × Byte ds t 2 × Byte ds t 3

abbrev pub HasTag : HexTag → Tag → Type 0
HasTag t x = TagSame t.0 x
