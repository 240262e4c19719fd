-- What c counts is sound, and means the same, wherever it is kept.
use Rattle.std.proofs.Common.{◌≡◌, ℕ, zero, suc, ◌+◌, ◌-◌, ◌<◌, ◌≤◌, List, [], ◌∷◌, length, drop, sym, refl, ap, ◌∙◌, subst, arith}
use Rattle.serialize.specs.declared.tables.Counts.{Counts}
use Rattle.serialize.specs.declared.tables.Frame.{Frame}
use Rattle.serialize.specs.declared.tables.Packed.{Packed}
use Rattle.serialize.specs.declared.tables.Link.{Link}
use Rattle.serialize.specs.declared.tables.Serializer.{Serializer}
use Rattle.serialize.specs.Objects.{Object, width_of, Fields, Linked, Once}
use Rattle.serialize.specs.Tables.{hash_of, no_counts, no_packed, entry_at, start_at, described, object_at, pool_to, open_at, stack_of, Sink, Chain, Base, Opened, Stacked, Kept}
use Rattle.serialize.proofs.Parts.{drop-same, take_same, between-high, between-low, getD-same}

pub counts_same : (a b : Counts) → a.head ≡ b.head → a.tail ≡ b.tail → a.lhead ≡ b.lhead → a.ltail ≡ b.ltail → a.objects ≡ b.objects → a.depth ≡ b.depth → a ≡ b
counts_same a b p q r t u v =
    let e : ◌≡◌ {A = Counts} (record { head = a.head; tail = a.tail; lhead = a.lhead; ltail = a.ltail; objects = a.objects; depth = a.depth }) (record { head = b.head; tail = b.tail; lhead = b.lhead; ltail = b.ltail; objects = b.objects; depth = b.depth }) = cc in
    e

pub object-same : (a a' : List ℕ) (b b' : List Link) → a ≡ a' → b ≡ b' → ◌≡◌ {A = Object} (record { bytes = a; links = b }) (record { bytes = a'; links = b' })
object-same a a' b b' p q = ap (λ (x : List ℕ). let o : Object = record { bytes = x; links = b } in o) p ∙ ap (λ (y : List Link). let o : Object = record { bytes = a'; links = y } in o) q

module _ (w w' : List ℕ) (s s' : Serializer) (len : length w' ≡ length w) where
  pub described-kept : (h l : ℕ) (p : Packed) → h ≤ p.head → l ≤ p.first → drop h w' ≡ drop h w → drop l s'.links ≡ drop l s.links → described w' s'.links p ≡ described w s.links p
  described-kept h l p a b e f =
      object-same _ _ _ _ (between-high w w' h p.head p.tail a e) (between-high s.links s'.links l p.first p.last b f)

  pub chain-kept : (n h l : ℕ) → Chain w s n h l → drop h w' ≡ drop h w → drop l s'.links ≡ drop l s.links → ((i : ℕ) → i < n → entry_at s' i ≡ entry_at s i) → Chain w' s' n h l × (pool_to w' s' n ≡ pool_to w s n)
  chain-kept zero h l (a, b) e f p = ((omega arith, b), refl)
  chain-kept (suc i) h l (a, b, c, d, m, r) e f p =
      let t : entry_at s' i ≡ entry_at s i = p i (omega arith) in
      let x = entry_at s i in
      let eh : drop x.tail w' ≡ drop x.tail w = drop-same w w' h x.tail b e in
      let el : drop x.last s'.links ≡ drop x.last s.links = drop-same s.links s'.links l x.last d f in
      let ih = chain-kept i x.tail x.last r eh el (λ k lt. p k (omega arith)) in
      let o : object_at w' s' i ≡ object_at w s i = ap (described w' s'.links) t ∙ described-kept h l x (omega arith) (omega arith) e f in
      let ha : (entry_at s' i).hash ≡ hash_of (object_at w' s' i) = ap (λ (y : Packed). y.hash) t ∙ m ∙ sym (ap hash_of o) in
      let th : (entry_at s' i).tail ≡ x.tail = ap (λ (y : Packed). y.tail) t in
      let hh : (entry_at s' i).head ≡ x.head = ap (λ (y : Packed). y.head) t in
      let fh : (entry_at s' i).first ≡ x.first = ap (λ (y : Packed). y.first) t in
      let lh : (entry_at s' i).last ≡ x.last = ap (λ (y : Packed). y.last) t in
      ((hh ∙ a, omega arith, fh ∙ c, omega arith, ha, subst (λ y. Chain w' s' i y.tail y.last) (sym t) ih.0), ap (λ (y : Object). y ∷ pool_to w' s' i) o ∙ ap (λ (y : List Object). object_at w s i ∷ y) ih.1)

  pub pool-kept : (c : Counts) → Chain w s c.objects c.tail c.ltail → Kept c w s w' s' → Chain w' s' c.objects c.tail c.ltail × (pool_to w' s' c.objects ≡ pool_to w s c.objects)
  pool-kept c r k =
      chain-kept c.objects c.tail c.ltail r k.tail k.link_tail (λ i lt. getD-same s.packed s'.packed c.objects i no_packed lt k.entries)

  pub base_kept : (c : Counts) → Base w s c → Kept c w s w' s' → Base w' s' c
  base_kept c b k =
      let p = pool-kept c b.chain k in record {
        heads = b.heads;
        tails = omega (arith, b.tails);
        link_heads = b.link_heads;
        link_tails = b.link_tails;
        few = b.few;
        chain = p.0;
        linked = subst Linked (sym p.1) b.linked;
        once = subst Once (sym p.1) b.once;
      }

  pub opened-kept : (f c : Counts) → Opened w s f c → Kept c w s w' s' → Opened w' s' f c
  opened-kept f c o k = record {
    heads = o.heads;
    tails = o.tails;
    link_heads = o.link_heads;
    link_tails = o.link_tails;
    more = o.more;
    fields = subst (λ ls. Fields 0 ls (c.head - f.head) c.objects) (sym (between-low s.links s'.links c.lhead f.lhead c.lhead (omega arith) k.link_head)) o.fields;
  }

  pub open_kept : (f c : Counts) → Kept c w s w' s' → open_at w' s' f c ≡ open_at w s f c
  open_kept f c k =
      object-same _ _ _ _ (between-low w w' c.head f.head c.head (omega arith) k.head) (between-low s.links s'.links c.lhead f.lhead c.lhead (omega arith) k.link_head)

  -- what an earlier count kept
  pub kept-before : (f c : Counts) → Opened w s f c → f.depth ≤ c.depth → Kept c w s w' s' → Kept f w s w' s'
  kept-before f c o d k = record {
    length_work = k.length_work;
    head = take_same w w' f.head c.head o.heads k.head;
    tail = drop-same w w' c.tail f.tail o.tails k.tail;
    link_head = take_same s.links s'.links f.lhead c.lhead o.link_heads k.link_head;
    link_tail = drop-same s.links s'.links c.ltail f.ltail o.link_tails k.link_tail;
    entries = take_same s.packed s'.packed f.objects c.objects o.more k.entries;
    frames = take_same s.frames s'.frames f.depth c.depth d k.frames;
  }

  pub start-kept : (c : Counts) (d : ℕ) → d < c.depth → Kept c w s w' s' → start_at s' d ≡ start_at s d
  start-kept c d lt k = ap (λ (f : Frame). f.start) (getD-same s.frames s'.frames c.depth d (record { start = no_counts }) lt k.frames)

  pub depth_is : (d : ℕ) (c : Counts) → Stacked w s d c → c.depth ≡ d
  depth_is zero c e = e
  depth_is (suc d) c (e, o, b, r) = e

  pub stacked-kept : (d : ℕ) (c : Counts) → Stacked w s d c → Kept c w s w' s' → Stacked w' s' d c × (stack_of w' s' d c ≡ stack_of w s d c)
  stacked-kept zero c e k = (e, refl)
  stacked-kept (suc d) c (e, o, b, r) k =
      let f = start_at s d in
      let fd : f.depth ≡ d = depth_is d f r in
      let kf : Kept f w s w' s' = kept-before f c o (omega arith) k in
      let ih = stacked-kept d f r kf in
      let t : start_at s' d ≡ f = start-kept c d (omega arith) k in (
        (e, subst (λ (g : Counts). Opened w' s' g c) (sym t) (opened-kept f c o k), subst (λ (g : Counts). Base w' s' g) (sym t) (base_kept f b kf), subst (λ (g : Counts). Stacked w' s' d g) (sym t) ih.0),
        ap (λ (g : Counts). open_at w' s' g c ∷ stack_of w' s' d g) t ∙ ap (λ (y : Object). y ∷ stack_of w' s' d f) (open_kept f c k) ∙ ap (λ (y : List Object). open_at w s f c ∷ y) ih.1,
      )

pub fields-more : (lo : ℕ) (ls : List Link) (m n m' n' : ℕ) → Fields lo ls m n → m ≤ m' → n ≤ n' → Fields lo ls m' n'
fields-more lo [] m n m' n' a p q = omega arith
fields-more lo (l ∷ ls) m n m' n' (a, b, r) p q = (a, omega arith, fields-more (l.position + width_of l.width) ls m n m' n' r p q)

pub sink-same : (a a' b b' : List Object) (m m' n n' : ℕ) → a ≡ a' → b ≡ b' → m ≡ m' → n ≡ n' → ◌≡◌ {A = Sink} (record { pool = a; stack = b; free = m; spare = n }) (record { pool = a'; stack = b'; free = m'; spare = n' })
sink-same a a' b b' m m' n n' p q r t = cc
