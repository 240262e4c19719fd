-- The fields of a feature's parameters. Numbers stand with the most significant byte first.
--   size_by b, set_by b, variant_by b    the fields of each kind of parameters, where the bytes have them all
--   char_at b i                          the number of a character, three bytes, at i
--   variant_char b k                     a character variant's character at the place k
use Rattle.std.specs.Prelude.{ℕ, ◌+◌, ◌*◌, cond, List, length, Some, None, Option, nat_le, nat_lt, slice_index}
use Rattle.font.specs.Numbers.{short_at}
use Rattle.console.specs.declared.params.SizeFields.{SizeFields}
use Rattle.console.specs.declared.params.SetFields.{SetFields}
use Rattle.console.specs.declared.params.VariantFields.{VariantFields}

abbrev pub size_by : List ℕ → Option SizeFields
size_by b =
    cond (nat_lt (length b) 10) None
    (Some (record { design = short_at b 0; subfamily = short_at b 2; name = short_at b 4; start = short_at b 6; end = short_at b 8 }))

abbrev pub set_by : List ℕ → Option SetFields
set_by b = cond (nat_lt (length b) 4) None (Some (record { version = short_at b 0; name = short_at b 2 }))

abbrev pub variant_by : List ℕ → Option VariantFields
variant_by b =
    cond (nat_lt (length b) 14) None
    (cond (nat_le (14 + 3 * short_at b 12) (length b))
    (Some (record { format = short_at b 0; label = short_at b 2; tooltip = short_at b 4; sample = short_at b 6; parameters = short_at b 8; first = short_at b 10; characters = short_at b 12 }))
    None)

abbrev pub char_at : List ℕ → ℕ → ℕ
char_at b i = slice_index b i * 65536 + slice_index b (i + 1) * 256 + slice_index b (i + 2)

abbrev pub variant_char : List ℕ → ℕ → Option ℕ
variant_char b k = cond (nat_lt (length b) (14 + 3 * k + 3)) None (Some (char_at b (14 + 3 * k)))
