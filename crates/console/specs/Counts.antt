-- What is written of a count, in ASCII.
--   number_text n t   the number of the things t
--   count_text s t    how a list of the things t stands, with their number
use Rattle.std.specs.Prelude.{ℕ, cond, List, ◌++◌, codes, decimal, ◌==◌}
use Rattle.source.specs.declared.parts.Standing.{Standing}
use Rattle.source.specs.declared.parts.Standing.TheVariants.{Absent, Unreadable, There}

abbrev pub number_text : ℕ → List ℕ → List ℕ
number_text n t =
    cond (n == 0) (codes "no " ++ (t ++ codes "s"))
    (cond (n == 1) (codes "1 " ++ t) (decimal n ++ (codes " " ++ (t ++ codes "s"))))

abbrev pub count_text : Standing ℕ → List ℕ → List ℕ
count_text Absent t = codes "absent"
count_text Unreadable t = codes "unreadable"
count_text (There n) t = number_text n t
