-- What is written of a character, an F2DOT14 number and a version, in ASCII.
--   code_text n        U+ and the number of a character of 24 bits, in four digits or more
--   parts_of n         the size of an F2DOT14 number, a two's complement count of 16384ths, in ten-thousandths, rounded
--   fixed_text n       that number with its sign and four decimal places
--   version_text n     the high half, a point, the low half
use Rattle.std.specs.Prelude.{ℕ, ◌+◌, ◌-◌, ◌*◌, ◌/◌, ◌%◌, cond, List, [], ◌∷◌, ◌++◌, codes, decimal, ◌==◌, nat_lt}
use Rattle.keys.specs.Texts.{hex_digit, hex_pair, byte_of}

abbrev pub plane_text : ℕ → List ℕ
plane_text p = cond (p == 0) [] (cond (nat_lt p 16) (hex_digit p ∷ []) (hex_pair p))

abbrev pub code_text : ℕ → List ℕ
code_text n = codes "U+" ++ (plane_text (byte_of n 65536) ++ (hex_pair (byte_of n 256) ++ hex_pair (n % 256)))

abbrev pub parts_of : ℕ → ℕ
parts_of n = (cond (nat_lt n 0x8000) n (0x10000 - n) * 10000 + 8192) / 16384

abbrev pub with_places : ℕ → List ℕ
with_places n =
    decimal (n / 10000)
    ++ (codes "." ++ (decimal (n / 1000 % 10) ++ (decimal (n / 100 % 10) ++ (decimal (n / 10 % 10) ++ decimal (n % 10)))))

abbrev pub fixed_text : ℕ → List ℕ
fixed_text n = cond (nat_lt n 0x8000) (codes "") (codes "-") ++ with_places (parts_of n)

abbrev pub version_text : ℕ → List ℕ
version_text n = decimal (n / 65536) ++ (codes "." ++ decimal (n % 65536))
