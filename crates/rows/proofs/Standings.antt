-- A part under one reading after another.
use Rattle.std.proofs.Common.{◌≡◌}
use Rattle.source.specs.Standings.{mapped}
use Rattle.source.specs.declared.parts.Standing.{Standing}
use Rattle.source.specs.declared.parts.Standing.TheVariants.{Absent, Unreadable, There}

-- a part that was mapped, seen by g, is that part, seen by h
pub mapped-by : {X Y Z : Type 0} (f : X → Y) (g : Standing Y → Z) (h : Standing X → Z) → g Absent ≡ h Absent → g Unreadable ≡ h Unreadable → ((x : X) → g (There (f x)) ≡ h (There x)) → (s : Standing X) → g (mapped f s) ≡ h s
mapped-by f g h absent unreadable there Absent = absent
mapped-by f g h absent unreadable there Unreadable = unreadable
mapped-by f g h absent unreadable there (There x) = there x
