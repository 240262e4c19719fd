-- The table directory of a font file: 12 bytes, with the number of records at 4, then records of 16 bytes.
--   opening_of b      what the first four bytes say
--   offset_like n     n may be an offset of a layout table's header: 0, or past its ten bytes
--   may_be_layout b   the numbers at 4, 6 and 8 may be such a header's offsets. A layout table of version 1.0
--                     begins with the four bytes of a font; in a font that says how to search its records,
--                     the number at 4 or the one at 8, a logarithm of it, is from 1 to 9
--   records_of b      the number of records, where the directory lies within the file
--   first_from b t k n   the place of the first of n records, from the one numbered k on, that has the tag t
use Rattle.std.specs.Prelude.{ℕ, zero, suc, ◌+◌, ◌*◌, Bool, cond, ◌&&◌, ◌||◌, List, length, Some, None, Option, ◌==◌, nat_le, nat_lt}
use Rattle.font.specs.declared.directory.Opening.{Opening}
use Rattle.font.specs.declared.directory.Opening.TheVariants.{Font, FontOrLayout, Collection, Compressed, Other}
use Rattle.font.specs.Numbers.{short_at, long_at}

-- 'OTTO' and 'true'; 1.0; 'ttcf'; 'wOFF' and 'wOF2'
abbrev pub opening_by : ℕ → Opening
opening_by v =
    cond (v == 0x4F54544F || v == 0x74727565) Font
    (cond (v == 0x00010000) FontOrLayout
    (cond (v == 0x74746366) Collection
    (cond (v == 0x774F4646 || v == 0x774F4632) Compressed Other)))

abbrev pub opening_of : List ℕ → Opening
opening_of b = cond (nat_lt (length b) 4) Other (opening_by (long_at b 0))

abbrev pub offset_like : ℕ → Bool
offset_like n = n == 0 || nat_le 10 n

abbrev pub may_be_layout : List ℕ → Bool
may_be_layout b =
    nat_lt (length b) 12 || (offset_like (short_at b 4) && (offset_like (short_at b 6) && offset_like (short_at b 8)))

abbrev pub records_of : List ℕ → Option ℕ
records_of b =
    cond (nat_lt (length b) 12) None (cond (nat_le (12 + 16 * short_at b 4) (length b)) (Some (short_at b 4)) None)

abbrev pub first_from : List ℕ → ℕ → ℕ → ℕ → Option ℕ
first_from b t k zero = None
first_from b t k (suc n) = cond (long_at b (12 + 16 * k) == t) (Some (12 + 16 * k)) (first_from b t (k + 1) n)
