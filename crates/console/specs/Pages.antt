-- What stands on a page so far, and what is added to it.
--   written p           the text
--   column_after n s    the column after the text s, from the column n, up to the greatest number of 64 bits
--   last_line s         how many bytes stand after the last end of a line in s
--   comma k             what ends the item before, if k items are before, and comma_column n k the column after that
--   fits n s            a space and the text s end within the width, from the column n
--   gap n s             what stands before an item s: a space, or the line's end and the next line's indent, and
--                       gap_column n s the column after that
--   item_text n k s     what the item s adds at the column n if k items are before, and item_column n k s the column after that
use Rattle.std.specs.Prelude.{ℕ, ◌+◌, ◌-◌, ◌^◌, min, Bool, not, cond, List, [], ◌++◌, length, reverse, string_bytes, codes, ◌==◌, nat_lt}
use Rattle.std.specs.List.{take_while}
use Rattle.console.specs.declared.page.Page.{Page}

abbrev pub written : Page → List ℕ
written p = string_bytes p.text

abbrev pub column_after : ℕ → List ℕ → ℕ
column_after n s = min (n + length s) (2 ^ 64 - 1)

abbrev pub last_line : List ℕ → ℕ
last_line s = length (take_while (λ b. not (b == 10)) (reverse s))

abbrev pub comma : ℕ → List ℕ
comma k = cond (nat_lt 0 k) (codes ",") []

abbrev pub comma_column : ℕ → ℕ → ℕ
comma_column n k = cond (nat_lt 0 k) (column_after n (codes ",")) n

abbrev pub fits : ℕ → List ℕ → Bool
fits n s = nat_lt (column_after n s) 100

abbrev pub gap : ℕ → List ℕ → List ℕ
gap n s = cond (fits n s) (codes " ") (codes "\n          ")

abbrev pub gap_column : ℕ → List ℕ → ℕ
gap_column n s = cond (fits n s) (column_after n (codes " ")) 10

abbrev pub item_text : ℕ → ℕ → List ℕ → List ℕ
item_text n k s = comma k ++ (gap (comma_column n k) s ++ s)

abbrev pub item_column : ℕ → ℕ → List ℕ → ℕ
item_column n k s = column_after (gap_column (comma_column n k) s) s
