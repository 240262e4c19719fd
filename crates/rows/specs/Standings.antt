-- Words on a function that is called at a part, if it is there.
--   Follows s R t    t is in the relation R to the part of s, and stands as s does where none is there
use Rattle.std.specs.Prelude.{◌≡◌}
use Rattle.source.specs.declared.parts.Standing.{Standing}
use Rattle.source.specs.declared.parts.Standing.TheVariants.{Absent, Unreadable, There}

abbrev pub Follows : {X Y : Type 0} → Standing X → (X → Standing Y → Type 0) → Standing Y → Type 0
Follows Absent R t = t ≡ Absent
Follows Unreadable R t = t ≡ Unreadable
Follows (There x) R t = R x t
