-- A tag in text.
--   printable b     b is a printable character of ASCII, from the space to the tilde
--   all_four p bs   the first four of bs pass p
--   padded bs i     the character of a tag at a place: that of the text, or a space past its end
--   tag_by bs       the tag's number, if the text has one to four characters and all are printable
--   Spells bs r     r is the tag that the text bs spells, or says that it spells none
--   hex_pair b      a byte as two hexadecimal digits
--   byte_of n k     the byte of n whose unit is k
--   tag_text n      a tag's four characters if each is printable, else 0x and its eight digits
use Rattle.std.specs.Prelude.{◌≡◌, ℕ, ◌+◌, ◌/◌, ◌%◌, Bool, cond, ◌&&◌, List, [], ◌∷◌, ◌++◌, length, Some, None, Ok, Err, Option, Result, codes, nat_le, nat_lt, slice_index}
use Rattle.keys.specs.Tags.{coded}
use Rattle.keys.specs.declared.tags.Tag.{Tag}
use Rattle.keys.specs.declared.texts.NoTag.{NoTag}

abbrev pub printable : ℕ → Bool
printable b = nat_le 0x20 b && nat_le b 0x7E

abbrev pub all_four : (ℕ → Bool) → List ℕ → Bool
all_four p bs =
    p (slice_index bs 0) && (p (slice_index bs 1) && (p (slice_index bs 2) && p (slice_index bs 3)))

abbrev pub padded : List ℕ → ℕ → ℕ
padded bs i = cond (nat_lt i (length bs)) (slice_index bs i) 32

abbrev pub four : List ℕ → List ℕ
four bs = padded bs 0 ∷ padded bs 1 ∷ padded bs 2 ∷ padded bs 3 ∷ []

abbrev pub all_printable : List ℕ → Bool
all_printable bs =
    printable (padded bs 0) && (printable (padded bs 1) && (printable (padded bs 2) && printable (padded bs 3)))

abbrev pub tag_by : List ℕ → Option ℕ
tag_by bs =
    cond (nat_le 1 (length bs) && (nat_le (length bs) 4 && all_printable bs)) (Some (coded (four bs))) None

abbrev pub Spells : List ℕ → Result Tag NoTag → Type 0
Spells bs (Ok t) = tag_by bs ≡ Some t.code
Spells bs (Err e) = tag_by bs ≡ None

abbrev pub hex_digit : ℕ → ℕ
hex_digit d = cond (nat_lt d 10) (48 + d) (55 + d)

abbrev pub hex_pair : ℕ → List ℕ
hex_pair b = hex_digit (b / 16) ∷ hex_digit (b % 16) ∷ []

abbrev pub byte_of : ℕ → ℕ → ℕ
byte_of n k = n / k % 256

abbrev pub four_text : ℕ → ℕ → ℕ → ℕ → List ℕ
four_text a b c d =
    cond (printable a && (printable b && (printable c && printable d))) (a ∷ b ∷ c ∷ d ∷ [])
    (codes "0x" ++ (hex_pair a ++ (hex_pair b ++ (hex_pair c ++ hex_pair d))))

abbrev pub tag_text : ℕ → List ℕ
tag_text n = four_text (byte_of n 16777216) (byte_of n 65536) (byte_of n 256) (n % 256)
