-- What the work buffer w and the tables s mean under the counts c.
--   end w            where packed bytes end: the buffer's length, and never past what 32 bits hold
--   hash_of x        the number by which a look-up passes over unequal objects
--   described        the object of an entry
--   object_at w s i  what the packed entry i describes
--   pool_to w s n    the first n of these, the newest first
--   open_at w s f c  the open object between two counts: that at its opening and that at its end
--   stack_of w s d c the d open objects, the top one first
--   Sink, sink_of    the meaning: packed objects, open objects, bytes and links still free
--   Chain w s n h l  the first n entries follow one another, from the byte h and the link l on to the end
--   Entry w s h l i  an entry of such a chain
--   Base w s c       the counts lie in the tables, and the packed objects are linked and stand once
--   Opened w s f c   the object open since f has links that are fields in its bytes
--   Stacked w s d c  the same of the d open objects, and what the counts at each opening say holds too
--   Sound w s c      all of that, for the depth of c
--   Over f c n       the counts c lie in a buffer of n bytes and in the tables, and reach no less far than f
--   Lies e n         the entry e lies in a buffer of n bytes and in the table of links
--   Kept c w s w' s' what c counts is the same in both
use Rattle.std.specs.Prelude.{◌≡◌, ℕ, zero, suc, ◌+◌, ◌-◌, ◌*◌, ◌%◌, ◌≤◌, min, List, [], ◌∷◌, length, get_or, take, drop, fold, slice_index_or}
use Rattle.std.specs.List.{between}
use Rattle.serialize.specs.declared.tables.Link.{Link}
use Rattle.serialize.specs.declared.tables.Counts.{Counts}
use Rattle.serialize.specs.declared.tables.Packed.{Packed}
use Rattle.serialize.specs.declared.tables.Serializer.{Serializer}
use Rattle.serialize.specs.Objects.{Object, Fields, Linked, Once}

abbrev pub end : List ℕ → ℕ
end w = min (length w) 4294967295

abbrev pub hash_of : Object → ℕ
hash_of x = fold (λ h b. (h * 31 + b) % 65536) (length x.links) x.bytes

abbrev pub no_counts : Counts
no_counts = record { head = 0; tail = 0; lhead = 0; ltail = 0; objects = 0; depth = 0 }

abbrev pub no_packed : Packed
no_packed = record { head = 0; tail = 0; first = 0; last = 0; hash = 0 }

abbrev pub entry_at : Serializer → ℕ → Packed
entry_at s i = slice_index_or s.packed i no_packed

abbrev pub start_at : Serializer → ℕ → Counts
start_at s d = (get_or s.frames d (record { start = no_counts })).start

abbrev pub described : List ℕ → List Link → Packed → Object
described w ls p = record { bytes = between p.head p.tail w; links = between p.first p.last ls }

abbrev pub object_at : List ℕ → Serializer → ℕ → Object
object_at w s i = described w s.links (entry_at s i)

abbrev pub pool_to : List ℕ → Serializer → ℕ → List Object
pool_to w s zero = []
pool_to w s (suc i) = object_at w s i ∷ pool_to w s i

abbrev pub open_at : List ℕ → Serializer → Counts → Counts → Object
open_at w s f c = record { bytes = between f.head c.head w; links = between f.lhead c.lhead s.links }

abbrev pub stack_of : List ℕ → Serializer → ℕ → Counts → List Object
stack_of w s zero c = []
stack_of w s (suc d) c = open_at w s (start_at s d) c ∷ stack_of w s d (start_at s d)

pub record Sink : Type 0 where
  pub pool : List Object
  pub stack : List Object
  pub free : ℕ
  pub spare : ℕ

abbrev pub sink_of : List ℕ → Serializer → Counts → Sink
sink_of w s c = record { pool = pool_to w s c.objects; stack = stack_of w s c.depth c; free = c.tail - c.head; spare = c.ltail - c.lhead }

abbrev pub Chain : List ℕ → Serializer → ℕ → ℕ → ℕ → Type 0
Chain w s zero h l = (h ≡ end w) × (l ≡ 4096)
Chain w s (suc i) h l = ((entry_at s i).head ≡ h) × (h ≤ (entry_at s i).tail) × ((entry_at s i).first ≡ l) × (l ≤ (entry_at s i).last) × ((entry_at s i).hash ≡ hash_of (object_at w s i)) × Chain w s i (entry_at s i).tail (entry_at s i).last

pub record Base (w : List ℕ) (s : Serializer) (c : Counts) : Type 0 where
  pub heads : c.head ≤ c.tail
  pub tails : c.tail ≤ length w
  pub link_heads : c.lhead ≤ c.ltail
  pub link_tails : c.ltail ≤ 4096
  pub few : c.objects ≤ 2048
  pub chain : Chain w s c.objects c.tail c.ltail
  pub linked : Linked (pool_to w s c.objects)
  pub once : Once (pool_to w s c.objects)

pub record Opened (w : List ℕ) (s : Serializer) (f c : Counts) : Type 0 where
  pub heads : f.head ≤ c.head
  pub tails : c.tail ≤ f.tail
  pub link_heads : f.lhead ≤ c.lhead
  pub link_tails : c.ltail ≤ f.ltail
  pub more : f.objects ≤ c.objects
  pub fields : Fields 0 (between f.lhead c.lhead s.links) (c.head - f.head) c.objects

abbrev pub Stacked : List ℕ → Serializer → ℕ → Counts → Type 0
Stacked w s zero c = c.depth ≡ 0
Stacked w s (suc d) c = (c.depth ≡ suc d) × Opened w s (start_at s d) c × Base w s (start_at s d) × Stacked w s d (start_at s d)

pub record Sound (w : List ℕ) (s : Serializer) (c : Counts) : Type 0 where
  pub shallow : c.depth ≤ 8
  pub frames : length s.frames ≡ 8
  pub entries : length s.packed ≡ 2048
  pub links : length s.links ≡ 4096
  pub base : Base w s c
  pub stacked : Stacked w s c.depth c

pub record Kept (c : Counts) (w : List ℕ) (s : Serializer) (w' : List ℕ) (s' : Serializer) : Type 0 where
  pub length_work : length w' ≡ length w
  pub head : take c.head w' ≡ take c.head w
  pub tail : drop c.tail w' ≡ drop c.tail w
  pub link_head : take c.lhead s'.links ≡ take c.lhead s.links
  pub link_tail : drop c.ltail s'.links ≡ drop c.ltail s.links
  pub entries : take c.objects s'.packed ≡ take c.objects s.packed
  pub frames : take c.depth s'.frames ≡ take c.depth s.frames

-- Counts that lie in a buffer of n bytes and in the tables, past those at an object's opening.
pub record Over (f c : Counts) (n : ℕ) : Type 0 where
  pub heads : f.head ≤ c.head
  pub bytes : c.head ≤ c.tail
  pub tails : c.tail ≤ n
  pub link_heads : f.lhead ≤ c.lhead
  pub links : c.lhead ≤ c.ltail
  pub link_tails : c.ltail ≤ 4096
  pub few : c.objects ≤ 2048

-- An entry that lies in a buffer of n bytes and in the table of links.
pub record Lies (e : Packed) (n : ℕ) : Type 0 where
  pub size : e.head ≤ e.tail
  pub high : e.tail ≤ n
  pub link_size : e.first ≤ e.last
  pub link_high : e.last ≤ 4096

-- An entry lies in the buffer and in the tables, past h and l, and its hash is that of its object.
pub record Entry (w : List ℕ) (s : Serializer) (h l i : ℕ) : Type 0 where
  pub low : h ≤ (entry_at s i).head
  pub size : (entry_at s i).head ≤ (entry_at s i).tail
  pub high : (entry_at s i).tail ≤ end w
  pub link_low : l ≤ (entry_at s i).first
  pub link_size : (entry_at s i).first ≤ (entry_at s i).last
  pub link_high : (entry_at s i).last ≤ 4096
  pub hashed : (entry_at s i).hash ≡ hash_of (object_at w s i)
