-- Trees of bytes: what a pool stands for, and what a reader of laid bytes finds.
--   Kids                 a width, a position, the bytes and the kids of the first kid, and the kids after it
--   LinksOf p ls ks      the links ls lead, in the pool p, to objects that stand for the kids ks
--   StandsFor p k bs ks  number k of the pool stands for the tree of these bytes and kids
--   Readable v d         a field of the width v holds d
--   Apart ks i           no kid has a field at the position i
--   BytesAt b a bs ks    from the place a on, b has the bytes bs outside the kids' fields
--   KidsAt b a ks        each kid's field, at its position from a, holds how far from a the kid is read
--   ReadAt b a bs ks     the tree is read from the place a on
use Rattle.std.specs.Prelude.{◌≡◌, ℕ, ◌+◌, ◌-◌, ◌<◌, ◌≤◌, ◌⊎◌, List, [], ◌∷◌, length, slice_index}
use Rattle.std.specs.List.{between}
use Rattle.serialize.specs.declared.tables.Width.{Width}
use Rattle.serialize.specs.declared.tables.Width.TheVariants.{Two, Four}
use Rattle.serialize.specs.declared.tables.Link.{Link}
use Rattle.serialize.specs.Objects.{Object, width_of, number}
use Rattle.serialize.specs.Laying.{field, place}
use Rattle.serialize.specs.Tables.{Sink}
use Rattle.serialize.specs.Calls.{top}

pub data Kids : Type 0 where
  done : Kids
  kid : Width → ℕ → List ℕ → Kids → Kids → Kids

abbrev pub LinksOf : List Object → List Link → Kids → Type 0
LinksOf p [] done = Unit {0}
LinksOf p (l ∷ ls) done = ⊥
LinksOf p [] (kid v q bs ks more) = ⊥
LinksOf p (l ∷ ls) (kid v q bs ks more) = (l.width ≡ v) × (l.position ≡ q) × (l.target < length p) × ((number p l.target).bytes ≡ bs) × LinksOf p (number p l.target).links ks × LinksOf p ls more

abbrev pub StandsFor : List Object → ℕ → List ℕ → Kids → Type 0
StandsFor p k bs ks = (k < length p) × ((number p k).bytes ≡ bs) × LinksOf p (number p k).links ks

abbrev pub Readable : Width → ℕ → Type 0
Readable Two d = d ≤ 65535
Readable Four d = d ≤ 4294967295

abbrev pub Apart : Kids → ℕ → Type 0
Apart done i = Unit {0}
Apart (kid v q bs ks more) i = ((i < q) ⊎ (q + width_of v ≤ i)) × Apart more i

abbrev pub BytesAt : List ℕ → ℕ → List ℕ → Kids → Type 0
BytesAt b a bs ks = (i : ℕ) → i < length bs → Apart ks i → slice_index b (a + i) ≡ slice_index bs i

abbrev pub KidsAt : List ℕ → ℕ → Kids → Type 0
KidsAt b a done = Unit {0}
KidsAt b a (kid v q bs ks more) = ((d : ℕ) × (0 < d) × Readable v d × (between (a + q) (a + q + width_of v) b ≡ field v d) × BytesAt b (a + d) bs ks × KidsAt b (a + d) ks) × KidsAt b a more

abbrev pub ReadAt : List ℕ → ℕ → List ℕ → Kids → Type 0
ReadAt b a bs ks = BytesAt b a bs ks × KidsAt b a ks

-- Every tree that the pool stands for is read from its object's place, and that of the newest object from the start.
pub record ReadBack (p : List Object) (b : List ℕ) : Type 0 where
  pub each : (k : ℕ) (bs : List ℕ) (ks : Kids) → StandsFor p k bs ks → ReadAt b (place p k) bs ks
  pub root : (bs : List ℕ) (ks : Kids) → StandsFor p (length p - 1) bs ks → ReadAt b 0 bs ks

-- An object x packed under the number k: it stands for its bytes and what its links lead to, and what stood for a
-- tree before still does.
pub record Planted (x : Object) (p p' : List Object) (k : ℕ) : Type 0 where
  pub tree : (ks : Kids) → LinksOf p x.links ks → StandsFor p' k x.bytes ks
  pub others : (j : ℕ) (bs : List ℕ) (ks : Kids) → StandsFor p j bs ks → StandsFor p' j bs ks

-- one kid more after the others
abbrev pub grafted : Kids → Width → ℕ → List ℕ → Kids → Kids
grafted done v q bs ks = kid v q bs ks done
grafted (kid v₁ q₁ bs₁ ks₁ more) v q bs ks = kid v₁ q₁ bs₁ ks₁ (grafted more v q bs ks)

-- a link to l's target is added to the top object of one sink, which makes the other
abbrev pub Grafted : Sink → Sink → Link → Type 0
Grafted k k' l = (ks : Kids) (bs : List ℕ) (sub : Kids) → LinksOf k.pool (top k).links ks → StandsFor k.pool l.target bs sub → LinksOf k'.pool (top k').links (grafted ks l.width l.position bs sub)
