-- Words on how a part stands.
--   mapped f s    the part's value under f, standing as before
--   listed s      the list that is there, or no elements
--   there s       the part, if it is there
--   unreadable s  whether it does not fit in the table
--   counted s     the count that is there, or 0
--   ForThere s P  P of the part, if it is there
--   required_of i the index of a required feature, of which 65,535 is none
use Rattle.std.specs.Prelude.{ℕ, Bool, true, false, cond, List, [], Option, Some, None, ◌==◌}
use Rattle.source.specs.declared.parts.Standing.{Standing}
use Rattle.source.specs.declared.parts.Standing.TheVariants.{Absent, Unreadable, There}

abbrev pub mapped : {X Y : Type 0} → (X → Y) → Standing X → Standing Y
mapped f Absent = Absent
mapped f Unreadable = Unreadable
mapped f (There x) = There (f x)

abbrev pub listed : {X : Type 0} → Standing (List X) → List X
listed Absent = []
listed Unreadable = []
listed (There xs) = xs

abbrev pub counted : Standing ℕ → ℕ
counted Absent = 0
counted Unreadable = 0
counted (There n) = n

abbrev pub there : {X : Type 0} → Standing X → Option X
there Absent = None
there Unreadable = None
there (There x) = Some x

abbrev pub unreadable : {X : Type 0} → Standing X → Bool
unreadable Absent = false
unreadable Unreadable = true
unreadable (There x) = false

abbrev pub ForThere : {X : Type 0} → Standing X → (X → Type 0) → Type 0
ForThere Absent P = Unit {0}
ForThere Unreadable P = Unit {0}
ForThere (There x) P = P x

abbrev pub required_of : ℕ → Option ℕ
required_of i = cond (i == 65535) None (Some i)
