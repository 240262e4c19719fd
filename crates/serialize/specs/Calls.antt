-- What each call of the sink leaves: w and w' are the work buffer before and after, s the tables, c the counts.
--   Before f c            counts that grew from f to c
--   SameOpen f c          the open objects reach as far in both
--   on_top f os           the top open object is changed
--   Embeds b ..           the bytes b are added to the top object
--   Assigns p b ..        the bytes b stand at the position p of the top object
--   Links l ..            the link l is added to the top object
--   Pushes ..             an empty object is opened
--   Discards ..           the counts of the top object's opening stand again, so what was packed since is gone
--   Packs .. k            the top object is packed under the number k, shared or new
--   Full ..               no number is left for it, and it is dropped
--   Offsets v t ..        a field of zeros and its link to the object t are added to the top object
--   Fits v t c            the top object takes an offset to the object t; Unfit v t c f: it does not, for the reason f
--   Copies b .. k         the bytes b are packed as an object of their own
--   Uncopied b .. f       why they are not
--   TakenBack ..          what the counts count is as before
use Rattle.std.specs.Prelude.{◌≡◌, ℕ, ◌+◌, ◌-◌, ◌<◌, ◌≤◌, ◌⊎◌, List, [], ◌∷◌, ◌++◌, length, drop, replicate, Result, MatchResult, slice_index_or, slice_set}
use Rattle.serialize.specs.declared.tables.Width.{Width}
use Rattle.std.proofs.Math.Seq.{paste}
use Rattle.std.specs.List.{between}
use Rattle.serialize.specs.declared.faults.Fault.{Fault}
use Rattle.serialize.specs.declared.faults.Fault.TheVariants.{Work, Limit}
use Rattle.serialize.specs.declared.tables.Link.{Link}
use Rattle.serialize.specs.declared.tables.Counts.{Counts}
use Rattle.serialize.specs.declared.tables.Serializer.{Serializer}
use Rattle.serialize.specs.declared.tokens.Token.{Token}
use Rattle.serialize.specs.Objects.{Object, width_of, none, Stands, Absent, Fields}
use Rattle.serialize.specs.Tables.{Sink, sink_of, start_at, Sound, Kept}

pub record Before (f c : Counts) : Type 0 where
  pub heads : f.head ≤ c.head
  pub tails : c.tail ≤ f.tail
  pub link_heads : f.lhead ≤ c.lhead
  pub link_tails : c.ltail ≤ f.ltail
  pub more : f.objects ≤ c.objects
  pub depths : f.depth ≤ c.depth

-- the open objects of the one are those of the other
abbrev pub SameOpen : Counts → Counts → Type 0
SameOpen f c = (c.head ≡ f.head) × (c.lhead ≡ f.lhead) × (c.depth ≡ f.depth)

abbrev pub on_top : (Object → Object) → List Object → List Object
on_top f [] = []
on_top f (o ∷ os) = f o ∷ os

abbrev pub grown : List ℕ → Object → Object
grown b o = record { bytes = o.bytes ++ b; links = o.links }

abbrev pub embedded : List ℕ → Sink → Sink
embedded b k = record { pool = k.pool; stack = on_top (grown b) k.stack; free = k.free - length b; spare = k.spare }

pub record Embeds (b w w' : List ℕ) (s : Serializer) (c c' : Counts) : Type 0 where
  pub room : length b ≤ c.tail - c.head
  pub work : w' ≡ paste w c.head b (length b)
  pub counts : c' ≡ record { head = c.head + length b; tail = c.tail; lhead = c.lhead; ltail = c.ltail; objects = c.objects; depth = c.depth }
  pub sound : Sound w' s c'
  pub sink : sink_of w' s c' ≡ embedded b (sink_of w s c)
  pub kept : Kept c w s w' s

abbrev pub Embedded : List ℕ → List ℕ → List ℕ → Serializer → Counts → Counts → Result Unit Fault → Type 0
Embedded b w w' s c c' r = MatchResult r (λ _. Embeds b w w' s c c') (λ f. (f ≡ Work) × (c.tail - c.head < length b) × (w' ≡ w) × (c' ≡ c))

abbrev pub opened : Sink → Sink
opened k = record { pool = k.pool; stack = none ∷ k.stack; free = k.free; spare = k.spare }

pub record Pushes (w : List ℕ) (s s' : Serializer) (c c' : Counts) (t : Token) : Type 0 where
  pub tables : s' ≡ record { frames = slice_set s.frames c.depth (record { start = c }); packed = s.packed; links = s.links }
  pub counts : c' ≡ record { head = c.head; tail = c.tail; lhead = c.lhead; ltail = c.ltail; objects = c.objects; depth = c.depth + 1 }
  pub level : t.level ≡ c'.depth
  pub sound : Sound w s' c'
  pub sink : sink_of w s' c' ≡ opened (sink_of w s c)
  pub start : start_at s' c.depth ≡ c
  pub kept : Kept c w s w s'

abbrev pub Pushed : List ℕ → Serializer → Serializer → Counts → Counts → Result Token Fault → Type 0
Pushed w s s' c c' r = MatchResult r (Pushes w s s' c c') (λ f. (f ≡ Limit) × (c.depth ≡ 8) × (s' ≡ s) × (c' ≡ c))

pub record Discards (w : List ℕ) (s : Serializer) (c c' : Counts) : Type 0 where
  pub counts : c' ≡ start_at s (c.depth - 1)
  pub sound : Sound w s c'
  pub stack : (sink_of w s c').stack ≡ drop 1 (sink_of w s c).stack
  pub pool : (sink_of w s c').pool ≡ drop (c.objects - c'.objects) (sink_of w s c).pool

abbrev pub top : Sink → Object
top k = slice_index_or k.stack 0 none

-- the top object is gone, and the standing equal one serves: its bytes and links are free again
abbrev pub shared : Sink → Sink
shared k = record { pool = k.pool; stack = drop 1 k.stack; free = k.free + length (top k).bytes; spare = k.spare + length (top k).links }

-- the top object is the newest packed one
abbrev pub packed : Sink → Sink
packed k = record { pool = top k ∷ k.pool; stack = drop 1 k.stack; free = k.free; spare = k.spare }

pub record Packs (w w' : List ℕ) (s s' : Serializer) (c c' : Counts) (k : ℕ) : Type 0 where
  pub sound : Sound w' s' c'
  pub stands : Stands (top (sink_of w s c)) (sink_of w' s' c').pool k
  pub sink : (Stands (top (sink_of w s c)) (sink_of w s c).pool k × (sink_of w' s' c' ≡ shared (sink_of w s c))) ⊎ (Absent (top (sink_of w s c)) (sink_of w s c).pool × (k ≡ length (sink_of w s c).pool) × (sink_of w' s' c' ≡ packed (sink_of w s c)))
  pub before : Before (start_at s (c.depth - 1)) c'
  pub same : SameOpen (start_at s (c.depth - 1)) c'
  pub kept : Kept (start_at s (c.depth - 1)) w s w' s'

pub record Full (w w' : List ℕ) (s s' : Serializer) (c c' : Counts) (f : Fault) : Type 0 where
  pub fault : f ≡ Limit
  pub full : length (sink_of w s c).pool ≡ 2048
  pub new : Absent (top (sink_of w s c)) (sink_of w s c).pool
  pub work : w' ≡ w
  pub tables : s' ≡ s
  pub gone : Discards w s c c'

abbrev pub PopPacked : List ℕ → List ℕ → Serializer → Serializer → Counts → Counts → Result ℕ Fault → Type 0
PopPacked w w' s s' c c' r = MatchResult r (Packs w w' s s' c c') (Full w w' s s' c c')

abbrev pub joined : Link → Object → Object
joined l o = record { bytes = o.bytes; links = o.links ++ l ∷ [] }

abbrev pub linked : Link → Sink → Sink
linked l k = record { pool = k.pool; stack = on_top (joined l) k.stack; free = k.free; spare = k.spare - 1 }

-- an object is open, and with the link l its links are still fields in its bytes, to packed objects
abbrev pub Takes : Serializer → Counts → Link → Type 0
Takes s c l = (0 < c.depth) × Fields 0 (between (start_at s (c.depth - 1)).lhead c.lhead s.links ++ l ∷ []) (c.head - (start_at s (c.depth - 1)).head) c.objects

pub record Links (l : Link) (w : List ℕ) (s s' : Serializer) (c c' : Counts) : Type 0 where
  pub room : c.lhead < c.ltail
  pub takes : Takes s c l
  pub tables : s' ≡ record { frames = s.frames; packed = s.packed; links = slice_set s.links c.lhead l }
  pub counts : c' ≡ record { head = c.head; tail = c.tail; lhead = c.lhead + 1; ltail = c.ltail; objects = c.objects; depth = c.depth }
  pub sound : Sound w s' c'
  pub sink : sink_of w s' c' ≡ linked l (sink_of w s c)
  pub kept : Kept c w s w s'

pub record Unlinked (l : Link) (s s' : Serializer) (c c' : Counts) (f : Fault) : Type 0 where
  pub fault : f ≡ Limit
  pub why : (c.lhead ≡ c.ltail) ⊎ (Takes s c l → ⊥)
  pub tables : s' ≡ s
  pub counts : c' ≡ c

abbrev pub LinkAdded : Link → List ℕ → Serializer → Serializer → Counts → Counts → Result Unit Fault → Type 0
LinkAdded l w s s' c c' r = MatchResult r (λ _. Links l w s s' c c') (Unlinked l s s' c c')

-- the bytes of the top object
abbrev pub TopSize : Serializer → Counts → ℕ → Type 0
TopSize s c n = (0 < c.depth) × (c.depth ≤ 8) × ((start_at s (c.depth - 1)).head ≤ c.head) × (n ≡ c.head - (start_at s (c.depth - 1)).head)

-- A field of zeros and its link are added to the top object; refused, the counts are as before, and so is what they
-- count.
pub record Offsets (v : Width) (t : ℕ) (w w' : List ℕ) (s s' : Serializer) (c c' : Counts) : Type 0 where
  pub counts : c' ≡ record { head = c.head + width_of v; tail = c.tail; lhead = c.lhead + 1; ltail = c.ltail; objects = c.objects; depth = c.depth }
  pub sound : Sound w' s' c'
  pub sink : sink_of w' s' c' ≡ linked (record { position = c.head - (start_at s (c.depth - 1)).head; target = t; width = v }) (embedded (replicate (width_of v) 0) (sink_of w s c))
  pub kept : Kept c w s w' s'

pub record TakenBack (w w' : List ℕ) (s s' : Serializer) (c c' : Counts) : Type 0 where
  pub counts : c' ≡ c
  pub sound : Sound w' s' c'
  pub sink : sink_of w' s' c' ≡ sink_of w s c
  pub kept : Kept c w s w' s'

-- An object is open, there is room for the field and for its link, and the target is packed.
pub record Fits (v : Width) (t : ℕ) (c : Counts) : Type 0 where
  pub opened : 0 < c.depth
  pub room : width_of v ≤ c.tail - c.head
  pub spare : c.lhead < c.ltail
  pub target : t < c.objects

-- why an offset is refused: no room for its field; else no object is open, no room for the link, or no such target
abbrev pub Unfit : Width → ℕ → Counts → Fault → Type 0
Unfit v t c f = ((f ≡ Work) × (0 < c.depth) × (c.tail - c.head < width_of v)) ⊎ ((f ≡ Limit) × ((c.depth ≡ 0) ⊎ ((c.lhead ≡ c.ltail) ⊎ (c.objects ≤ t))))

abbrev pub OffsetAdded : Width → ℕ → List ℕ → List ℕ → Serializer → Serializer → Counts → Counts → Result Unit Fault → Type 0
OffsetAdded v t w w' s s' c c' r = MatchResult r (λ _. Offsets v t w w' s s' c c') (λ _. TakenBack w w' s s' c c')

-- What each answer to an offset says of the counts.
abbrev pub OffsetAnswered : Width → ℕ → Counts → Result Unit Fault → Type 0
OffsetAnswered v t c r = MatchResult r (λ _. Fits v t c) (Unfit v t c)

abbrev pub written : ℕ → List ℕ → Object → Object
written p b o = record { bytes = paste o.bytes p b (length b); links = o.links }

abbrev pub assigned : ℕ → List ℕ → Sink → Sink
assigned p b k = record { pool = k.pool; stack = on_top (written p b) k.stack; free = k.free; spare = k.spare }

pub record Assigns (p : ℕ) (b w w' : List ℕ) (s : Serializer) (c : Counts) : Type 0 where
  pub within : p + length b ≤ c.head - (start_at s (c.depth - 1)).head
  pub work : w' ≡ paste w ((start_at s (c.depth - 1)).head + p) b (length b)
  pub sound : Sound w' s c
  pub sink : sink_of w' s c ≡ assigned p b (sink_of w s c)
  pub kept : Kept (start_at s (c.depth - 1)) w s w' s

abbrev pub Assigned : ℕ → List ℕ → List ℕ → List ℕ → Serializer → Counts → Result Unit Fault → Type 0
Assigned p b w w' s c r = MatchResult r (λ _. Assigns p b w w' s c) (λ f. (f ≡ Work) × (c.head - (start_at s (c.depth - 1)).head < p + length b) × (w' ≡ w))

-- Bytes packed as an object of their own, without links: the open objects are as before.
pub record Copies (b w w' : List ℕ) (s s' : Serializer) (c c' : Counts) (k : ℕ) : Type 0 where
  pub sound : Sound w' s' c'
  pub stands : Stands (record { bytes = b; links = [] }) (sink_of w' s' c').pool k
  pub stack : (sink_of w' s' c').stack ≡ (sink_of w s c).stack
  pub pool : ((sink_of w' s' c').pool ≡ (sink_of w s c).pool) ⊎ ((sink_of w' s' c').pool ≡ record { bytes = b; links = [] } ∷ (sink_of w s c).pool)
  pub before : Before c c'
  pub same : SameOpen c c'
  pub kept : Kept c w s w' s'

-- why bytes are not packed: no room for them; else no object can be opened, or no number is left for a new one
abbrev pub Uncopied : List ℕ → List ℕ → Serializer → Counts → Fault → Type 0
Uncopied b w s c f = ((f ≡ Work) × (c.tail - c.head < length b)) ⊎ ((f ≡ Limit) × ((c.depth ≡ 8) ⊎ ((length (sink_of w s c).pool ≡ 2048) × Absent (record { bytes = b; links = [] }) (sink_of w s c).pool)))

abbrev pub Copied : List ℕ → List ℕ → List ℕ → Serializer → Serializer → Counts → Counts → Result ℕ Fault → Type 0
Copied b w w' s s' c c' r = MatchResult r (Copies b w w' s s' c c') (λ _. TakenBack w w' s s' c c')

-- x stands in the packed objects p under the number k and nothing is added, or it does not stand there and is added.
abbrev pub Shared : Object → List Object → List Object → ℕ → Type 0
Shared x p p' k = (Stands x p k × (p' ≡ p)) ⊎ (Absent x p × (k ≡ length p) × (p' ≡ x ∷ p))

-- What each answer to a copy says of the packed objects and the counts.
abbrev pub CopyAnswered : List ℕ → List ℕ → List ℕ → Serializer → Serializer → Counts → Counts → Result ℕ Fault → Type 0
CopyAnswered b w w' s s' c c' r = MatchResult r (Shared (record { bytes = b; links = [] }) (sink_of w s c).pool (sink_of w' s' c').pool) (Uncopied b w s c)
