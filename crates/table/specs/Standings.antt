-- Words on a part that may not be there.
--   part_or s d f    what f makes of the part, or d where none is there
--   Mapped s R t     t stands as s does, and its part is in the relation R to that of s
use Rattle.std.specs.Prelude.{◌≡◌}
use Rattle.source.specs.declared.parts.Standing.{Standing}
use Rattle.source.specs.declared.parts.Standing.TheVariants.{Absent, Unreadable, There}

abbrev pub part_or : {X Y : Type 0} → Standing X → Y → (X → Y) → Y
part_or Absent d f = d
part_or Unreadable d f = d
part_or (There x) d f = f x

abbrev pub Mapped : {X Y : Type 0} → Standing X → (X → Y → Type 0) → Standing Y → Type 0
Mapped Absent R t = t ≡ Absent
Mapped Unreadable R t = t ≡ Unreadable
Mapped {Y = Y} (There x) R t = (y : Y) × (t ≡ There y) × R x y
