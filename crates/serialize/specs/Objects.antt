-- Objects and pools of them, the newest object first. An object's number is how many are older.
--   width_of w         the bytes of a link's field
--   same_width v w     whether the widths are equal
--   same_link l m      whether the links are equal, part by part
--   size p             the bytes of all objects of a pool
--   from p k           the pool of old whose newest object is number k
--   number p k         the object of that number
--   Stands x p k       number k of the pool is x
--   Absent x p         no object of the pool is x
--   Fields lo ls m n   links in order of position, from lo on: each field ends where the next may begin, the last
--                      within m bytes, and each target is below n
--   Linked p           each object's links are such fields in its bytes, and lead to older objects
--   Once p             no two objects of the pool are equal
use Rattle.std.specs.Prelude.{◌≡◌, ℕ, suc, ◌+◌, ◌-◌, ◌<◌, ◌≤◌, Bool, ◌==◌, List, [], ◌∷◌, length, drop, slice_index_or}
use Rattle.std.specs.Ordering.{on, eq_of_both}
use Rattle.serialize.specs.declared.tables.Width.{Width}
use Rattle.serialize.specs.declared.tables.Width.TheVariants.{Two, Four}
use Rattle.serialize.specs.declared.tables.Link.{Link}

pub record Object : Type 0 where
  pub bytes : List ℕ
  pub links : List Link

abbrev pub width_of : Width → ℕ
width_of Two = 2
width_of Four = 4

abbrev pub same_width : Width → Width → Bool
same_width = on width_of ◌==◌

abbrev pub same_link : Link → Link → Bool
same_link = eq_of_both (eq_of_both (on (λ l. l.position) ◌==◌) (on (λ l. l.target) ◌==◌)) (on (λ l. l.width) same_width)

abbrev pub size : List Object → ℕ
size [] = 0
size (o ∷ p) = length o.bytes + size p

abbrev pub from : List Object → ℕ → List Object
from p k = drop (length p - suc k) p

abbrev pub none : Object
none = record { bytes = []; links = [] }

abbrev pub number : List Object → ℕ → Object
number p k = slice_index_or p (length p - suc k) none

abbrev pub Stands : Object → List Object → ℕ → Type 0
Stands x p k = (k < length p) × (number p k ≡ x)

abbrev pub Absent : Object → List Object → Type 0
Absent x p = (k : ℕ) → Stands x p k → ⊥

abbrev pub Fields : ℕ → List Link → ℕ → ℕ → Type 0
Fields lo [] m n = lo ≤ m
Fields lo (l ∷ ls) m n = (lo ≤ l.position) × (l.target < n) × Fields (l.position + width_of l.width) ls m n

abbrev pub Linked : List Object → Type 0
Linked [] = Unit {0}
Linked (o ∷ p) = Fields 0 o.links (length o.bytes) (length p) × Linked p

abbrev pub Once : List Object → Type 0
Once [] = Unit {0}
Once (o ∷ p) = Absent o p × Once p

-- where the last field of links ends, or lo
abbrev pub last_end : ℕ → List Link → ℕ
last_end lo [] = lo
last_end lo (l ∷ ls) = last_end (l.position + width_of l.width) ls
