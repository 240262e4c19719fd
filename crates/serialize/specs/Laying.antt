-- A pool laid in one run of bytes: the newest object first, each link's field holding how far its target is.
--   field v n          the last bytes of n, as many as the width v has, the highest first
--   put bs p xs        xs written over bs at the place p
--   place p k          where number k of the pool stands
--   distance q l       how far the target of l is from the newest object of q, which holds it
--   patched bs ls q    the bytes of the newest object of q, with the fields of its links written
--   laid p             all of it
--   Short q ls         each of the links is within what its width holds
--   AllShort p         each link of the pool is
--   Outside ls i       no link has a field at the position i
--   Carried p b        what a reader finds in b: at each object's place its bytes outside its links' fields, and in
--                      each field the target's place minus the holder's
use Rattle.std.specs.Prelude.{◌≡◌, ℕ, ◌+◌, ◌-◌, ◌/◌, ◌%◌, ◌<◌, ◌≤◌, ◌⊎◌, List, [], ◌∷◌, ◌++◌, length, drop, Result, MatchResult, slice_index}
use Rattle.std.proofs.Math.Seq.{paste}
use Rattle.std.specs.List.{between}
use Rattle.serialize.specs.declared.faults.Fault.{Fault}
use Rattle.serialize.specs.declared.faults.Fault.TheVariants.{Offset, Out}
use Rattle.serialize.specs.declared.tables.Width.{Width}
use Rattle.serialize.specs.declared.tables.Width.TheVariants.{Two, Four}
use Rattle.serialize.specs.declared.tables.Link.{Link}
use Rattle.serialize.specs.Objects.{Object, width_of, size, from, number}

abbrev pub field : Width → ℕ → List ℕ
field v n = drop (4 - width_of v) ((n / 16777216 % 256) ∷ (n / 65536 % 256) ∷ (n / 256 % 256) ∷ (n % 256) ∷ [])

abbrev pub put : List ℕ → ℕ → List ℕ → List ℕ
put bs p xs = paste bs p xs (length xs)

abbrev pub place : List Object → ℕ → ℕ
place p k = size p - size (from p k)

abbrev pub distance : List Object → Link → ℕ
distance q l = place q l.target

abbrev pub patched : List ℕ → List Link → List Object → List ℕ
patched bs [] q = bs
patched bs (l ∷ ls) q = patched (put bs l.position (field l.width (distance q l))) ls q

abbrev pub laid : List Object → List ℕ
laid [] = []
laid (o ∷ p) = patched o.bytes o.links (o ∷ p) ++ laid p

abbrev pub Within : Width → ℕ → Type 0
Within Two n = n ≤ 65535
Within Four n = Unit {0}

abbrev pub Short : List Object → List Link → Type 0
Short q [] = Unit {0}
Short q (l ∷ ls) = Within l.width (distance q l) × Short q ls

abbrev pub AllShort : List Object → Type 0
AllShort [] = Unit {0}
AllShort (o ∷ p) = Short (o ∷ p) o.links × AllShort p

abbrev pub Outside : List Link → ℕ → Type 0
Outside [] i = Unit {0}
Outside (l ∷ ls) i = ((i < l.position) ⊎ (l.position + width_of l.width ≤ i)) × Outside ls i

abbrev pub Fielded : List Link → (Link → Type 0) → Type 0
Fielded [] P = Unit {0}
Fielded (l ∷ ls) P = P l × Fielded ls P

pub record Carried (p : List Object) (b : List ℕ) : Type 0 where
  pub bytes : (k i : ℕ) → k < length p → i < length (number p k).bytes → Outside (number p k).links i → slice_index b (place p k + i) ≡ slice_index (number p k).bytes i
  pub fields : (k : ℕ) → k < length p → Fielded (number p k).links (λ l. between (place p k + l.position) (place p k + l.position + width_of l.width) b ≡ field l.width (place p l.target - place p k))

pub record Lays (p : List Object) (out out' : List ℕ) (n : ℕ) : Type 0 where
  pub count : n ≡ size p
  pub short : AllShort p
  pub room : size p ≤ length out
  pub bytes : out' ≡ laid p ++ drop (size p) out
  pub carried : Carried p out'

abbrev pub Refused : List Object → List ℕ → List ℕ → Fault → Type 0
Refused p out out' f = (out' ≡ out) × (((f ≡ Offset) × (AllShort p → ⊥)) ⊎ ((f ≡ Out) × AllShort p × (length out < size p)))

abbrev pub Laid : List Object → List ℕ → List ℕ → Result ℕ Fault → Type 0
Laid p out out' r = MatchResult r (Lays p out out') (Refused p out out')
