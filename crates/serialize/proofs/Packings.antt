-- The top object packed, by a standing equal one or as a new one.
use Rattle.std.proofs.Common.{◌≡◌, ℕ, zero, suc, ◌+◌, ◌-◌, ◌<◌, ◌≤◌, ◌≢◌, List, ◌∷◌, length, get_or, take, drop, set, sym, refl, ap, ◌∙◌, subst, inl, inr, arith}
use lib.Seq.{paste}
use Rattle.std.specs.List.{between}
use Rattle.std.proofs.lemmas.List.{length-set, length-drop, get_or-set_same, get_or-set_other, take-set-le}
use Rattle.std.proofs.lemmas.List.Edits.{length-paste, drop-paste, length-between}
use Rattle.serialize.specs.declared.tables.Counts.{Counts}
use Rattle.serialize.specs.declared.tables.Packed.{Packed}
use Rattle.serialize.specs.declared.tables.Link.{Link}
use Rattle.serialize.specs.declared.tables.Serializer.{Serializer}
use Rattle.serialize.specs.Objects.{Object, none, Fields, Linked, Once, Stands, Absent}
use Rattle.serialize.specs.Tables.{hash_of, no_packed, entry_at, start_at, described, object_at, pool_to, open_at, stack_of, sink_of, Chain, Base, Opened, Stacked, Over, Sound, Kept}
use Rattle.serialize.specs.declared.faults.Fault.TheVariants.{Limit}
use Rattle.serialize.specs.Calls.{Before, SameOpen, top, Packs, Full}
use Rattle.serialize.proofs.Openings.{discards}
use Rattle.serialize.proofs.Parts.{drop-same, take-paste-low, between-paste}
use Rattle.serialize.proofs.Keeps.{object-same, sink-same, fields-more, chain-kept, stacked-kept, depth_is}
use Rattle.serialize.proofs.Pools.{length-pool}

-- counts under which the open objects are those of f, with what was packed up to t, l and n
abbrev pub under : Counts → ℕ → ℕ → ℕ → Counts
under f t l n = record { head = f.head; tail = t; lhead = f.lhead; ltail = l; objects = n; depth = f.depth }

module _ (w : List ℕ) (s : Serializer) where
  pub raised : (d : ℕ) (f : Counts) (t l n : ℕ) → Stacked w s d f → t ≤ f.tail → l ≤ f.ltail → f.objects ≤ n → Stacked w s d (under f t l n) × (stack_of w s d (under f t l n) ≡ stack_of w s d f)
  raised zero f t l n e a b m = (e, refl)
  raised (suc d) f t l n (e, o, q, r) a b m =
      let g = start_at s d in
      let o' : Opened w s g (under f t l n) = record {
        heads = o.heads;
        tails = omega (arith, o.tails);
        link_heads = o.link_heads;
        link_tails = omega (arith, o.link_tails);
        more = omega (arith, o.more);
        fields = fields-more 0 (between g.lhead f.lhead s.links) (f.head - g.head) f.objects (f.head - g.head) n o.fields (omega arith) m;
      } in
      ((e, o', q, r), refl)

  -- the top frame
  pub record Top (c f : Counts) : Type 0 where
    pub frame : start_at s (c.depth - 1) ≡ f
    pub opened : Opened w s f c
    pub base : Base w s f
    pub depth : f.depth + 1 ≡ c.depth
    pub stacked : Stacked w s f.depth f
    pub stack : stack_of w s c.depth c ≡ open_at w s f c ∷ stack_of w s f.depth f

  pub top_of : (c : Counts) (d : ℕ) → Stacked w s d c → c.depth ≡ d → 0 < d → Top c (start_at s (d - 1))
  top_of c zero r p lt = absurd (omega arith)
  top_of c (suc d) (e, o, q, r) p lt =
      let z : d ≡ suc d - 1 = omega arith in
      let fd : (start_at s d).depth ≡ d = depth_is w w s s refl d (start_at s d) r in
      subst (λ k. Top c (start_at s k)) z (record {
        frame = ap (λ k. start_at s (k - 1)) p ∙ ap (start_at s) (sym z);
        opened = o;
        base = q;
        depth = omega arith;
        stacked = subst (λ k. Stacked w s k (start_at s d)) (sym fd) r;
        stack = ap (λ k. stack_of w s k c) p ∙ ap (λ (y : List Object). open_at w s (start_at s d) c ∷ y) (ap (λ k. stack_of w s k (start_at s d)) (sym fd));
      })

  module _ (c f : Counts) (sound : Sound w s c) (h : Top c f) where
    pub top-is : top (sink_of w s c) ≡ open_at w s f c
    top-is = ap (λ (y : List Object). get_or y 0 none) h.stack

    pub rest-is : drop 1 (stack_of w s c.depth c) ≡ stack_of w s f.depth f
    rest-is = ap (drop 1) h.stack

    pub top-bytes : length (between f.head c.head w) ≡ c.head - f.head
    top-bytes = length-between w f.head c.head (omega (arith, sound.base.heads, sound.base.tails))

    pub top-links : length (between f.lhead c.lhead s.links) ≡ c.lhead - f.lhead
    top-links = length-between s.links f.lhead c.lhead (omega (arith, sound.base.link_heads, sound.base.link_tails, sound.links))

    pub packs-shared : (k : ℕ) → Stands (open_at w s f c) (pool_to w s c.objects) k → Packs w w s s c (under f c.tail c.ltail c.objects) k
    packs-shared k st =
        let up = raised f.depth f c.tail c.ltail c.objects h.stacked h.opened.tails h.opened.link_tails h.opened.more in
        let st' : Stands (top (sink_of w s c)) (pool_to w s c.objects) k = subst (λ (y : Object). Stands y (pool_to w s c.objects) k) (sym top-is) st in
        let lb : length (top (sink_of w s c)).bytes ≡ c.head - f.head = ap (λ (y : Object). length y.bytes) top-is ∙ top-bytes in
        let ll : length (top (sink_of w s c)).links ≡ c.lhead - f.lhead = ap (λ (y : Object). length y.links) top-is ∙ top-links in
        let b : Base w s (under f c.tail c.ltail c.objects) = record {
          heads = omega (arith, sound.base.heads, h.opened.heads);
          tails = sound.base.tails;
          link_heads = omega (arith, sound.base.link_heads, h.opened.link_heads);
          link_tails = sound.base.link_tails;
          few = sound.base.few;
          chain = sound.base.chain;
          linked = sound.base.linked;
          once = sound.base.once;
        } in
        record {
          sound = record { shallow = omega (arith, h.depth, sound.shallow); frames = sound.frames; entries = sound.entries; links = sound.links; base = b; stacked = up.0 };
          stands = st';
          sink = inl (st', sink-same _ _ _ _ _ _ _ _ refl (up.1 ∙ sym rest-is) (omega (arith, lb, sound.base.heads, h.opened.heads)) (omega (arith, ll, sound.base.link_heads, h.opened.link_heads)));
          before = subst (λ (g : Counts). Before g (under f c.tail c.ltail c.objects)) (sym h.frame) (record { heads = omega arith; tails = h.opened.tails; link_heads = omega arith; link_tails = h.opened.link_tails; more = h.opened.more; depths = omega arith });
          same = subst (λ (g : Counts). SameOpen g (under f c.tail c.ltail c.objects)) (sym h.frame) (refl, refl, refl);
          kept = record { length_work = refl; head = refl; tail = refl; link_head = refl; link_tail = refl; entries = refl; frames = refl };
        }

pub packs-shared-to : (w : List ℕ) (s : Serializer) (c f c' : Counts) (k : ℕ) → Sound w s c → Top w s c f → Stands (open_at w s f c) (pool_to w s c.objects) k → c' ≡ under f c.tail c.ltail c.objects → Packs w w s s c c' k
packs-shared-to w s c f c' k sound h st e = subst (λ (d : Counts). Packs w w s s c d k) (sym e) (packs-shared w s c f sound h k st)

-- A part of a list that is moved up to end at t: what stood there is gone, and the rest stays.
module _ {X : Type 0} (xs xs' : List X) (a b t : ℕ) (ab : a ≤ b) (bt : b ≤ t) (in-xs : t ≤ length xs) (is : xs' ≡ paste xs (t - (b - a)) (drop a xs) (b - a)) where
  fits : t - (b - a) + (b - a) ≤ length xs
  fits = omega arith

  long : b - a ≤ length (drop a xs)
  long = simp length-drop (omega arith)

  pub moved_length : length xs' ≡ length xs
  moved_length = ap length is ∙ length-paste xs (t - (b - a)) (drop a xs) (b - a) fits long

  pub moved-low : take a xs' ≡ take a xs
  moved-low = ap (take a) is ∙ take-paste-low xs (t - (b - a)) (drop a xs) (b - a) fits long a (omega arith)

  pub moved-high : drop t xs' ≡ drop t xs
  moved-high =
      let e : t - (b - a) + (b - a) ≡ t = omega arith in
      subst (λ k. drop k xs' ≡ drop k xs) e (ap (drop (t - (b - a) + (b - a))) is ∙ drop-paste xs (t - (b - a)) (drop a xs) (b - a) (omega arith) long)

  pub moved-part : between (t - (b - a)) t xs' ≡ between a b xs
  moved-part =
      let e : t - (b - a) + (b - a) ≡ t = omega arith in
      subst (λ k. between (t - (b - a)) k xs' ≡ between a b xs) e (ap (between (t - (b - a)) (t - (b - a) + (b - a))) is ∙ between-paste xs (t - (b - a)) (drop a xs) (b - a) fits long)

abbrev pub entry-for : Counts → Counts → ℕ → Packed
entry-for f c mark = record { head = c.tail - (c.head - f.head); tail = c.tail; first = c.ltail - (c.lhead - f.lhead); last = c.ltail; hash = mark }

-- the tables and the counts afterwards
abbrev pub settled : Serializer → Counts → Counts → ℕ → List Link → Serializer
settled s f c mark ls = record { frames = s.frames; packed = set s.packed c.objects (entry-for f c mark); links = ls }

abbrev pub packed-counts : Counts → Counts → Counts
packed-counts f c = under f (c.tail - (c.head - f.head)) (c.ltail - (c.lhead - f.lhead)) (c.objects + 1)

module _ (w w' : List ℕ) (s : Serializer) (ls : List Link) (c f : Counts) (mark : ℕ) (sound : Sound w s c) (h : Top w s c f) (new : Absent (open_at w s f c) (pool_to w s c.objects)) (room : c.objects < 2048) (hashed : mark ≡ hash_of (open_at w s f c)) (wis : w' ≡ paste w (c.tail - (c.head - f.head)) (drop f.head w) (c.head - f.head)) (lis : ls ≡ paste s.links (c.ltail - (c.lhead - f.lhead)) (drop f.lhead s.links) (c.lhead - f.lhead)) where
  abbrev s' : Serializer
  s' = settled s f c mark ls

  bound : c.tail ≤ length w
  bound = sound.base.tails

  lbound : c.ltail ≤ length s.links
  lbound = omega (arith, sound.base.link_tails, sound.links)

  len : length w' ≡ length w
  len = moved_length w w' f.head c.head c.tail h.opened.heads sound.base.heads bound wis

  entry_new : entry_at s' c.objects ≡ entry-for f c mark
  entry_new = get_or-set_same s.packed c.objects (entry-for f c mark) no_packed (omega (arith, sound.entries))

  entry_old : (i : ℕ) → i < c.objects → entry_at s' i ≡ entry_at s i
  entry_old i lt = let ne : i ≢ c.objects = omega arith in get_or-set_other s.packed c.objects i (entry-for f c mark) no_packed ne

  high : drop c.tail w' ≡ drop c.tail w
  high = moved-high w w' f.head c.head c.tail h.opened.heads sound.base.heads bound wis

  lhigh : drop c.ltail ls ≡ drop c.ltail s.links
  lhigh = moved-high s.links ls f.lhead c.lhead c.ltail h.opened.link_heads sound.base.link_heads lbound lis

  old : Chain w' s' c.objects c.tail c.ltail × (pool_to w' s' c.objects ≡ pool_to w s c.objects)
  old = chain-kept w w' s s' len c.objects c.tail c.ltail sound.base.chain high lhigh entry_old

  object-new : object_at w' s' c.objects ≡ open_at w s f c
  object-new =
      ap (described w' ls) entry_new
      ∙ object-same _ _ _ _ (moved-part w w' f.head c.head c.tail h.opened.heads sound.base.heads bound wis) (moved-part s.links ls f.lhead c.lhead c.ltail h.opened.link_heads sound.base.link_heads lbound lis)

  pool-new : pool_to w' s' (suc c.objects) ≡ open_at w s f c ∷ pool_to w s c.objects
  pool-new = ap (λ (y : Object). y ∷ pool_to w' s' c.objects) object-new ∙ ap (λ (y : List Object). open_at w s f c ∷ y) old.1

  chain-new : Chain w' s' (suc c.objects) (c.tail - (c.head - f.head)) (c.ltail - (c.lhead - f.lhead))
  chain-new =
      let hm : (entry_at s' c.objects).hash ≡ hash_of (object_at w' s' c.objects) = ap (λ (y : Packed). y.hash) entry_new ∙ hashed ∙ sym (ap hash_of object-new) in
      let eh : (entry_at s' c.objects).head ≡ c.tail - (c.head - f.head) = ap (λ (y : Packed). y.head) entry_new in
      let et : (entry_at s' c.objects).tail ≡ c.tail = ap (λ (y : Packed). y.tail) entry_new in
      let ef : (entry_at s' c.objects).first ≡ c.ltail - (c.lhead - f.lhead) = ap (λ (y : Packed). y.first) entry_new in
      let el : (entry_at s' c.objects).last ≡ c.ltail = ap (λ (y : Packed). y.last) entry_new in
      (eh, omega (arith, et), ef, omega (arith, el), hm, subst (λ (y : Packed). Chain w' s' c.objects y.tail y.last) (sym entry_new) old.0)

  kept : Kept f w s w' s'
  kept = record {
    length_work = len;
    head = moved-low w w' f.head c.head c.tail h.opened.heads sound.base.heads bound wis;
    tail = drop-same w w' c.tail f.tail h.opened.tails high;
    link_head = moved-low s.links ls f.lhead c.lhead c.ltail h.opened.link_heads sound.base.link_heads lbound lis;
    link_tail = drop-same s.links ls c.ltail f.ltail h.opened.link_tails lhigh;
    entries = take-set-le f.objects s.packed c.objects (entry-for f c mark) h.opened.more;
    frames = refl;
  }

  fields : Fields 0 (between f.lhead c.lhead s.links) (length (between f.head c.head w)) (length (pool_to w s c.objects))
  fields = let e = top-bytes w s c f sound h in let l = length-pool w s c.objects in fields-more 0 (between f.lhead c.lhead s.links) (c.head - f.head) c.objects _ _ h.opened.fields (omega arith) (omega arith)

  one : suc c.objects ≡ c.objects + 1
  one = omega arith

  base : Base w' s' (packed-counts f c)
  base = record {
    heads = omega (arith, sound.base.heads, h.opened.heads);
    tails = omega (arith, sound.base.tails, len);
    link_heads = omega (arith, sound.base.link_heads, h.opened.link_heads);
    link_tails = omega (arith, sound.base.link_tails);
    few = omega arith;
    chain = subst (λ k. Chain w' s' k (c.tail - (c.head - f.head)) (c.ltail - (c.lhead - f.lhead))) one chain-new;
    linked = subst (λ k. Linked (pool_to w' s' k)) one (subst Linked (sym pool-new) (fields, sound.base.linked));
    once = subst (λ k. Once (pool_to w' s' k)) one (subst Once (sym pool-new) (new, sound.base.once));
  }

  pub packs-new : Packs w w' s s' c (packed-counts f c) c.objects
  packs-new =
      let k = stacked-kept w w' s s' len f.depth f h.stacked kept in
      let up = raised w' s' f.depth f (c.tail - (c.head - f.head)) (c.ltail - (c.lhead - f.lhead)) (c.objects + 1) k.0 (omega (arith, h.opened.tails)) (omega (arith, h.opened.link_tails)) (omega (arith, h.opened.more)) in
      let pool : pool_to w' s' (c.objects + 1) ≡ open_at w s f c ∷ pool_to w s c.objects = ap (pool_to w' s') (sym one) ∙ pool-new in
      let tis = top-is w s c f sound h in
      let lp = length-pool w s c.objects in
      let st : Stands (open_at w s f c) (open_at w s f c ∷ pool_to w s c.objects) c.objects = let z : suc (length (pool_to w s c.objects)) - suc c.objects ≡ 0 = omega arith in (omega arith, ap (λ i. get_or (open_at w s f c ∷ pool_to w s c.objects) i none) z) in
      record {
        sound = record { shallow = omega (arith, h.depth, sound.shallow); frames = sound.frames; entries = length-set s.packed c.objects (entry-for f c mark) ∙ sound.entries; links = moved_length s.links ls f.lhead c.lhead c.ltail h.opened.link_heads sound.base.link_heads lbound lis ∙ sound.links; base = base; stacked = up.0 };
        stands = subst (λ (y : List Object). Stands (top (sink_of w s c)) y c.objects) (sym pool) (subst (λ (x : Object). Stands x (open_at w s f c ∷ pool_to w s c.objects) c.objects) (sym tis) st);
        sink = inr (subst (λ (x : Object). Absent x (pool_to w s c.objects)) (sym tis) new, sym lp, sink-same _ _ _ _ _ _ _ _ (pool ∙ ap (λ (x : Object). x ∷ pool_to w s c.objects) (sym tis)) (up.1 ∙ k.1 ∙ sym (rest-is w s c f sound h)) (omega (arith, sound.base.heads, h.opened.heads)) (omega (arith, sound.base.link_heads, h.opened.link_heads)));
        before = subst (λ (g : Counts). Before g (packed-counts f c)) (sym h.frame) (record { heads = omega arith; tails = omega (arith, h.opened.tails); link_heads = omega arith; link_tails = omega (arith, h.opened.link_tails); more = omega (arith, h.opened.more); depths = omega arith });
        same = subst (λ (g : Counts). SameOpen g (packed-counts f c)) (sym h.frame) (refl, refl, refl);
        kept = subst (λ (g : Counts). Kept g w s w' s') (sym h.frame) kept;
      }

module _ (w : List ℕ) (s : Serializer) (c : Counts) (sound : Sound w s c) (level : ℕ) (some : 0 < level) (is : level ≡ c.depth) where
  pub top-at : Top w s c (start_at s (level - 1))
  top-at = subst (λ k. Top w s c (start_at s (k - 1))) (sym is) (top_of w s c c.depth sound.stacked refl (omega arith))

  pub sound-over : Over (start_at s (level - 1)) c (length w)
  sound-over = let o = top-at.opened in let b = sound.base in record { heads = o.heads; bytes = b.heads; tails = b.tails; link_heads = o.link_heads; links = b.link_heads; link_tails = b.link_tails; few = b.few }

  pub full : 2048 ≤ c.objects → Absent (open_at w s (start_at s (level - 1)) c) (pool_to w s c.objects) → Full w w s s c (start_at s (level - 1)) Limit
  full many new = record {
    fault = refl;
    full = omega (arith, length-pool w s c.objects, sound.base.few);
    new = subst (λ (x : Object). Absent x (pool_to w s c.objects)) (sym (top-is w s c (start_at s (level - 1)) sound top-at)) new;
    work = refl;
    tables = refl;
    gone = discards w s c sound (start_at s (level - 1)) level some is refl;
  }

pub packs-settled : (w w' : List ℕ) (s s' : Serializer) (c f c' : Counts) (mark : ℕ) → Sound w s c → Top w s c f → Absent (open_at w s f c) (pool_to w s c.objects) → c.objects < 2048 → mark ≡ hash_of (open_at w s f c) → w' ≡ paste w (c.tail - (c.head - f.head)) (drop f.head w) (c.head - f.head) → s' ≡ settled s f c mark (paste s.links (c.ltail - (c.lhead - f.lhead)) (drop f.lhead s.links) (c.lhead - f.lhead)) → c' ≡ packed-counts f c → Packs w w' s s' c c' c.objects
packs-settled w w' s _ c f c' mark sound h new room hashed wis sis cis =
    subst (λ (t : Serializer). Packs w w' s t c c' c.objects) (sym sis)
    (subst (λ (d : Counts). Packs w w' s (settled s f c mark (paste s.links (c.ltail - (c.lhead - f.lhead)) (drop f.lhead s.links) (c.lhead - f.lhead))) c d c.objects) (sym cis)
    (packs-new w w' s (paste s.links (c.ltail - (c.lhead - f.lhead)) (drop f.lhead s.links) (c.lhead - f.lhead)) c f mark sound h new room hashed wis refl))
