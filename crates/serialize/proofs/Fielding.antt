-- A link more in the top object.
use Rattle.std.proofs.Common.{◌≡◌, ℕ, zero, suc, ◌+◌, ◌-◌, ◌<◌, ◌≤◌, Bool, true, false, List, [], ◌∷◌, ◌++◌, length, get_or, take, drop, set, Decides, sym, refl, ap, ◌∙◌, subst, arith}
use Rattle.std.specs.List.{between}
use Rattle.std.proofs.lemmas.List.{length-set, length-take-le, take-set-le, drop-set-lt, take_more_set, drop-append-le}
use Rattle.std.proofs.lemmas.List.Edits.{between_more}
use Rattle.std.proofs.lemmas.Slice.{between_is}
use Rattle.serialize.specs.declared.tables.Counts.{Counts}
use Rattle.serialize.specs.declared.tables.Link.{Link}
use Rattle.serialize.specs.declared.tables.Width.{Width}
use Rattle.serialize.specs.declared.tables.Width.TheVariants.{Two, Four}
use Rattle.std.proofs.lemmas.Bool.{false≢true}
use Rattle.serialize.specs.declared.tables.Serializer.{Serializer}
use Rattle.serialize.specs.Objects.{Object, width_of, last_end, Fields}
use Rattle.serialize.specs.Tables.{start_at, open_at, stack_of, Base, Opened, Stacked, Sound, Kept}
use Rattle.serialize.specs.Calls.{on_top, joined, Takes, Links}
use Rattle.serialize.proofs.Keeps.{object-same, sink-same, pool-kept, base_kept, stacked-kept, kept-before, depth_is}
use Rattle.serialize.proofs.Packings.{top_of}

abbrev pub past : Link → ℕ
past l = l.position + width_of l.width

pub last-push : (lo : ℕ) (ls : List Link) (l : Link) → last_end lo (ls ++ l ∷ []) ≡ past l
last-push lo [] l = refl
last-push lo (k ∷ ls) l = last-push (past k) ls l

pub fields-push : (lo : ℕ) (ls : List Link) (l : Link) (m n : ℕ) → Fields lo ls m n → last_end lo ls ≤ l.position → l.target < n → past l ≤ m → Fields lo (ls ++ l ∷ []) m n
fields-push lo [] l m n f a b d = (a, b, d)
fields-push lo (k ∷ ls) l m n (x, y, f) a b d = (x, y, fields-push (past k) ls l m n f a b d)

pub fields-last : (lo : ℕ) (ls : List Link) (l : Link) (m n : ℕ) → Fields lo (ls ++ l ∷ []) m n → (last_end lo ls ≤ l.position) × (l.target < n) × (past l ≤ m)
fields-last lo [] l m n (a, b, d) = (a, b, d)
fields-last lo (k ∷ ls) l m n (x, y, f) = fields-last (past k) ls l m n f

-- the end of the last link in a part of the table
pub last_none : (ls : List Link) (a b : ℕ) → b ≤ a → 0 ≡ last_end 0 (between a b ls)
last_none ls a b le = let z : b - a ≡ 0 = omega arith in sym (ap (λ n. last_end 0 (take n (drop a ls))) z)

pub last_some : (ls : List Link) (a b : ℕ) (d : Link) → a < b → b ≤ length ls → past (get_or ls (b - 1) d) ≡ last_end 0 (between a b ls)
last_some ls a b d lt le =
    let z : b - 1 + 1 ≡ b = omega arith in
    let e : between a b ls ≡ between a (b - 1) ls ++ get_or ls (b - 1) d ∷ [] = ap (λ n. between a n ls) (sym z) ∙ between_more ls a (b - 1) d (omega arith) (omega arith) in
    sym (ap (last_end 0) e ∙ last-push 0 (between a (b - 1) ls) (get_or ls (b - 1) d))

-- a link written after those of a part
pub between-push : (ls : List Link) (a b : ℕ) (l : Link) → a ≤ b → b < length ls → between a (b + 1) (set ls b l) ≡ between a b ls ++ l ∷ []
between-push ls a b l le lt =
    let e : length (take b ls) ≡ b = length-take-le b ls (omega arith) in
    between_is (set ls b l) a (b + 1) ∙ ap (drop a) (take_more_set ls b l lt) ∙ drop-append-le a (take b ls) (l ∷ []) (omega arith) ∙ ap (λ (y : List Link). y ++ l ∷ []) (sym (between_is ls a b))

abbrev pub linked-tables : Serializer → Counts → Link → Serializer
linked-tables s c l = record { frames = s.frames; packed = s.packed; links = set s.links c.lhead l }

abbrev pub linked-counts : Counts → Counts
linked-counts c = record { head = c.head; tail = c.tail; lhead = c.lhead + 1; ltail = c.ltail; objects = c.objects; depth = c.depth }

module _ (w : List ℕ) (s : Serializer) (c : Counts) (l : Link) (sound : Sound w s c) (room : c.lhead < c.ltail) where
  abbrev s' : Serializer
  s' = linked-tables s c l

  kept : Kept c w s w s'
  kept = record {
    length_work = refl;
    head = refl;
    tail = refl;
    link_head = take-set-le c.lhead s.links c.lhead l (omega arith);
    link_tail = drop-set-lt c.ltail s.links c.lhead l room;
    entries = refl;
    frames = refl;
  }

  base : Base w s' (linked-counts c)
  base = let k = base_kept w w s s' refl c sound.base kept in record {
    heads = k.heads;
    tails = k.tails;
    link_heads = omega arith;
    link_tails = k.link_tails;
    few = k.few;
    chain = k.chain;
    linked = k.linked;
    once = k.once;
  }

  more : (f : Counts) → f.lhead ≤ c.lhead → between f.lhead (c.lhead + 1) s'.links ≡ between f.lhead c.lhead s.links ++ l ∷ []
  more f le = between-push s.links f.lhead c.lhead l le (omega (arith, sound.base.link_tails, sound.links))

  stacked : (d : ℕ) → Stacked w s d c → Fields 0 (between (start_at s (d - 1)).lhead c.lhead s.links ++ l ∷ []) (c.head - (start_at s (d - 1)).head) c.objects → Stacked w s' d (linked-counts c) × (stack_of w s' d (linked-counts c) ≡ on_top (joined l) (stack_of w s d c))
  stacked zero e t = (e, refl)
  stacked (suc d) (e, o, q, r) t =
      let k = stacked-kept w w s s' refl (suc d) c (e, o, q, r) kept in
      let f = start_at s d in
      let z : suc d - 1 ≡ d = omega arith in
      let t' : Fields 0 (between f.lhead c.lhead s.links ++ l ∷ []) (c.head - f.head) c.objects = subst (λ i. Fields 0 (between (start_at s i).lhead c.lhead s.links ++ l ∷ []) (c.head - (start_at s i).head) c.objects) z t in
      let o' : Opened w s' f (linked-counts c) = record {
        heads = o.heads;
        tails = o.tails;
        link_heads = omega (arith, o.link_heads);
        link_tails = o.link_tails;
        more = o.more;
        fields = subst (λ ls. Fields 0 ls (c.head - f.head) c.objects) (sym (more f o.link_heads)) t';
      } in
      let kf : Kept f w s w s' = kept-before w w s s' refl f c o (omega (arith, depth_is w w s s' refl d f r)) kept in
      let rest = stacked-kept w w s s' refl d f r kf in
      ((e, o', k.0.2, k.0.3), ap (λ (y : Object). y ∷ stack_of w s' d f) (object-same _ _ _ _ refl (more f o.link_heads)) ∙ ap (λ (y : List Object). joined l (open_at w s f c) ∷ y) rest.1)

  pub links : Takes s c l → Links l w s (linked-tables s c l) c (linked-counts c)
  links t =
      let k = stacked c.depth sound.stacked t.1 in
      let p = pool-kept w w s s' refl c sound.base.chain kept in
      record {
        room = room;
        takes = t;
        tables = refl;
        counts = refl;
        sound = record { shallow = sound.shallow; frames = sound.frames; entries = sound.entries; links = length-set s.links c.lhead l ∙ sound.links; base = base; stacked = k.0 };
        sink = sink-same _ _ _ _ _ _ _ _ p.1 k.1 refl (omega arith);
        kept = kept;
      }

width_some : (v : Width) → 0 < width_of v
width_some Two = omega arith
width_some Four = omega arith

-- whether the top object takes a link
module _ (w : List ℕ) (s : Serializer) (c : Counts) (l : Link) (sound : Sound w s c) where
  abbrev f : Counts
  f = start_at s (c.depth - 1)

  pub takes-if : 0 < c.depth → l.target < c.objects → f.head + l.position + width_of l.width ≤ c.head → (b : Bool) → (b ≡ true → last_end 0 (between f.lhead c.lhead s.links) ≤ l.position) → (last_end 0 (between f.lhead c.lhead s.links) ≤ l.position → b ≡ true) → Decides b (Takes s c l)
  takes-if some old within b there back =
      let t = top_of w s c c.depth sound.stacked refl some in (
        λ p. (some, fields-push 0 (between f.lhead c.lhead s.links) l (c.head - f.head) c.objects t.opened.fields (there p) old (omega arith)),
        λ q. back (fields-last 0 (between f.lhead c.lhead s.links) l (c.head - f.head) c.objects q.1).0,
      )

  pub takes-some : Takes s c l → (0 < c.depth) × (l.target < c.objects) × (f.head + l.position + width_of l.width ≤ c.head)
  takes-some (some, q) =
      let t = top_of w s c c.depth sound.stacked refl some in
      let r = fields-last 0 (between f.lhead c.lhead s.links) l (c.head - f.head) c.objects q in
      (some, r.1, omega (arith, r.2, t.opened.heads, width_some l.width))

  pub takes-not : (P : Type 0) → (Takes s c l → P → ⊥) → P → Decides false (Takes s c l)
  takes-not P g p = (λ e. absurd (false≢true e), λ q. absurd (g q p))
