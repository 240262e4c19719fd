-- Objects laid one by one.
use Rattle.std.proofs.Common.{◌≡◌, ℕ, zero, suc, ◌+◌, ◌-◌, ◌/◌, ◌%◌, ◌<◌, ◌≤◌, List, [], ◌∷◌, ◌++◌, length, get_or, take, drop, sym, refl, ap, ◌∙◌, subst, ⊎_elim, arith}
use borrow.Rule.Slice.PartMut.{put_mid}
use Rattle.std.proofs.lemmas.List.{append_assoc, length-take-le, take-append-le, take-take, take-append-drop, drop_at, drop-drop, at_drop_more, at_drop_all, drop_more, drop_all}
use Rattle.std.proofs.lemmas.List.Edits.{length-between}
use Rattle.std.proofs.lemmas.Bool.{cases_order}
use Rattle.serialize.specs.declared.tables.Width.{Width}
use Rattle.serialize.specs.declared.tables.Width.TheVariants.{Two, Four}
use Rattle.serialize.specs.declared.tables.Counts.{Counts}
use Rattle.serialize.specs.declared.tables.Link.{Link}
use Rattle.serialize.specs.declared.tables.Serializer.{Serializer}
use Rattle.serialize.specs.Objects.{Object, width_of, size, from, number, Fields, Linked}
use Rattle.serialize.specs.Tables.{end, entry_at, object_at, pool_to, Chain, Entry, Lies, Sound}
use Rattle.serialize.specs.Laying.{field, put, place, distance, patched, laid, Within, Short, AllShort}
use Rattle.serialize.proofs.Pools.{length-pool, number_of, chain-within, entry_in}

pub length-field : (v : Width) (n : ℕ) → length (field v n) ≡ width_of v
length-field Two n = refl
length-field Four n = refl

pub field-part : (v : Width) (n z : ℕ) (raw : List ℕ) → z ≡ width_of v → raw ≡ (n / 16777216 % 256) ∷ (n / 65536 % 256) ∷ (n / 256 % 256) ∷ (n % 256) ∷ [] → take (4 - (4 - z)) (drop (4 - z) raw) ≡ field v n
field-part Two n z raw e r = ap (λ k. take (4 - (4 - k)) (drop (4 - k) raw)) e ∙ ap (λ l. take 2 (drop 2 l)) r
field-part Four n z raw e r = ap (λ k. take (4 - (4 - k)) (drop (4 - k) raw)) e ∙ ap (λ l. take 4 (drop 0 l)) r

pub width_small : (v : Width) → (0 < width_of v) × (width_of v ≤ 4)
width_small Two = (omega arith, omega arith)
width_small Four = (omega arith, omega arith)

module _ (w : List ℕ) (s : Serializer) where
  -- an entry's place tells how much is older
  pub heads : (n h l k : ℕ) → Chain w s n h l → h + size (pool_to w s n) ≡ end w
  heads zero h l k (a, b) = omega arith
  heads (suc n) h l k (a, b, c, d, m, r) =
      let z = chain-within w s n (entry_at s n).tail (entry_at s n).last r in
      let e : length (object_at w s n).bytes ≡ (entry_at s n).tail - (entry_at s n).head = length-between w (entry_at s n).head (entry_at s n).tail (omega (arith, z.0)) in
      let ih = heads n (entry_at s n).tail (entry_at s n).last k r in
      omega (arith, e, ih)

  pub chain-at : (n h l k : ℕ) → Chain w s n h l → k < n → Chain w s (suc k) (entry_at s k).head (entry_at s k).first
  chain-at zero h l k r lt = absurd (omega arith)
  chain-at (suc n) h l k (a, b, c, d, m, r) lt =
      ⊎_elim
      (λ (p : k ≡ n). subst (λ i. Chain w s (suc i) (entry_at s i).head (entry_at s i).first) (sym p) (refl, omega arith, refl, omega arith, m, r))
      (⊎_elim
      (λ (q : k < n). chain-at n (entry_at s n).tail (entry_at s n).last k r q)
      (λ (g : n < k). absurd (omega arith)))
      (cases_order k n)

  pub from-pool : (n k : ℕ) → k < n → from (pool_to w s n) k ≡ pool_to w s (suc k)
  from-pool zero k lt = absurd (omega arith)
  from-pool (suc n) k lt =
      let e = length-pool w s n in
      ⊎_elim
      (λ (p : k ≡ n). let z : suc (length (pool_to w s n)) - suc k ≡ 0 = omega arith in ap (λ i. drop i (pool_to w s (suc n))) z ∙ ap (λ i. pool_to w s (suc i)) (sym p))
      (⊎_elim
      (λ (l : k < n). let z : suc (length (pool_to w s n)) - suc k ≡ suc (length (pool_to w s n) - suc k) = omega arith in ap (λ i. drop i (pool_to w s (suc n))) z ∙ from-pool n k l)
      (λ (g : n < k). absurd (omega arith)))
      (cases_order k n)

  pub distance_is : (n h l i : ℕ) (k : Link) → Chain w s n h l → i < n → k.target < i → ((entry_at s i).head ≤ (entry_at s k.target).head) × ((entry_at s k.target).head - (entry_at s i).head ≡ distance (pool_to w s (suc i)) k)
  distance_is n h l i k r lt old =
      let a = heads (suc i) (entry_at s i).head (entry_at s i).first 0 (chain-at n h l i r lt) in
      let b = heads (suc k.target) (entry_at s k.target).head (entry_at s k.target).first 0 (chain-at n h l k.target r (omega arith)) in
      let d : size (from (pool_to w s (suc i)) k.target) ≡ size (pool_to w s (suc k.target)) = ap size (from-pool (suc i) k.target (omega arith)) in
      let o = entry_in w s (suc i) (entry_at s i).head (entry_at s i).first k.target (chain-at n h l i r lt) (omega arith) in
      (o.low, omega (arith, a, b, d))

  pub linked-at : (n i : ℕ) → Linked (pool_to w s n) → i < n → Fields 0 (object_at w s i).links (length (object_at w s i).bytes) i
  linked-at zero i r lt = absurd (omega arith)
  linked-at (suc n) i (a, r) lt =
      ⊎_elim
      (λ (p : i ≡ n). subst (λ j. Fields 0 (object_at w s j).links (length (object_at w s j).bytes) j) (sym p) (subst (λ m. Fields 0 (object_at w s n).links (length (object_at w s n).bytes) m) (length-pool w s n) a))
      (⊎_elim (λ (q : i < n). linked-at n i r q) (λ (g : n < i). absurd (omega arith)))
      (cases_order i n)

pub fields_in : (lo : ℕ) (ls : List Link) (m n : ℕ) → Fields lo ls m n → lo ≤ m
fields_in lo [] m n f = f
fields_in lo (l ∷ ls) m n (a, b, f) = omega (arith, fields_in (l.position + width_of l.width) ls m n f)

pub field_at : (lo : ℕ) (ls : List Link) (m n j : ℕ) (d : Link) → Fields lo ls m n → j < length ls → ((get_or ls j d).target < n) × ((get_or ls j d).position + width_of (get_or ls j d).width ≤ m)
field_at lo [] m n j d f lt = absurd (omega arith)
field_at lo (l ∷ ls) m n zero d (a, b, f) lt = (b, fields_in (l.position + width_of l.width) ls m n f)
field_at lo (l ∷ ls) m n (suc j) d (a, b, f) lt = field_at (l.position + width_of l.width) ls m n j d f (omega arith)

module _ (part : List ℕ) (ls : List Link) (q : List Object) (j : ℕ) where
  pub patched-more : (part' : List ℕ) (d : Link) (n : ℕ) → j < length ls → n ≡ distance q (get_or ls j d) → part' ≡ put part (get_or ls j d).position (field (get_or ls j d).width n) → patched part (drop j ls) q ≡ patched part' (drop (j + 1) ls) q
  patched-more part' d n lt e is =
      let l = get_or ls j d in
      let w : part' ≡ put part l.position (field l.width (distance q l)) = is ∙ ap (λ m. put part l.position (field l.width m)) e in
      at_drop_more (λ k. patched part k q) ls j d lt ∙ ap (λ b. patched b (drop (j + 1) ls) q) (sym w)

  pub patched-all : length ls ≤ j → patched part (drop j ls) q ≡ part
  patched-all le = at_drop_all (λ k. patched part k q) ls j le

-- the links from j on, the first of them apart
module _ (q : List Object) (ls : List Link) (j : ℕ) (d : Link) (lt : j < length ls) where
  pub short-from : Within (get_or ls j d).width (distance q (get_or ls j d)) → Short q (drop (j + 1) ls) → Short q (drop j ls)
  short-from a b = subst (Short q) (sym (drop_more ls j d lt)) (a, b)

  pub short-parts : Short q (drop j ls) → Within (get_or ls j d).width (distance q (get_or ls j d)) × Short q (drop (j + 1) ls)
  short-parts h = subst (Short q) (drop_more ls j d lt) h

pub short-end : (q : List Object) (ls : List Link) (j : ℕ) → length ls ≤ j → Short q (drop j ls)
short-end q ls j le = subst (Short q) (sym (drop_all j ls le)) tt

module _ (w : List ℕ) (s : Serializer) where
  pub all-short_at : (n i : ℕ) → AllShort (pool_to w s n) → i < n → Short (pool_to w s (suc i)) (object_at w s i).links
  all-short_at zero i h lt = absurd (omega arith)
  all-short_at (suc n) i (a, h) lt =
      ⊎_elim
      (λ (p : i ≡ n). subst (λ j. Short (pool_to w s (suc j)) (object_at w s j).links) (sym p) a)
      (⊎_elim (λ (q : i < n). all-short_at n i h q) (λ (g : n < i). absurd (omega arith)))
      (cases_order i n)

  pub all-short-more : (i : ℕ) → Short (pool_to w s (suc i)) (object_at w s i).links → AllShort (pool_to w s i) → AllShort (pool_to w s (i + 1))
  all-short-more i a h = let e : suc i ≡ i + 1 = omega arith in subst (λ j. AllShort (pool_to w s j)) e (a, h)

  -- what is laid once the first i objects are
  abbrev pub so_far : List ℕ → ℕ → ℕ → List ℕ
  so_far out n i = take (size (pool_to w s n) - size (pool_to w s i)) out ++ (laid (pool_to w s i) ++ drop (size (pool_to w s n)) out)

  module _ (n h l : ℕ) (chain : Chain w s n h l) where
    pub total : h + size (pool_to w s n) ≡ end w
    total = heads w s n h l 0 chain

    pub entry-places : (i : ℕ) → i < n → (h ≤ (entry_at s i).head) × ((entry_at s i).head ≤ (entry_at s i).tail) × ((entry_at s i).head - h ≡ size (pool_to w s n) - size (pool_to w s (suc i))) × ((entry_at s i).tail - h ≡ size (pool_to w s n) - size (pool_to w s i)) × ((entry_at s i).tail - h ≤ size (pool_to w s n))
    entry-places i lt =
        let c = chain-at w s n h l i chain lt in
        let a = heads w s (suc i) (entry_at s i).head (entry_at s i).first 0 c in
        let b = heads w s i (entry_at s i).tail (entry_at s i).last 0 c.5 in
        let e = entry_in w s n h l i chain lt in
        let t = total in
        (e.low, e.size, omega (arith, a, t), omega (arith, b, t), omega (arith, b, t))

  pub so-far-none : (out : List ℕ) (n : ℕ) → out ≡ so_far out n 0
  so-far-none out n = let z : size (pool_to w s n) ≡ size (pool_to w s n) - 0 = omega arith in sym (take-append-drop (size (pool_to w s n)) out) ∙ ap (λ k. take k out ++ drop (size (pool_to w s n)) out) z

  pub so-far-all : (out : List ℕ) (n : ℕ) → so_far out n n ≡ laid (pool_to w s n) ++ drop (size (pool_to w s n)) out
  so-far-all out n = let z : size (pool_to w s n) - size (pool_to w s n) ≡ 0 = omega arith in ap (λ k. take k out ++ (laid (pool_to w s n) ++ drop (size (pool_to w s n)) out)) z

-- a part written right before what stands
pub put-before : (out₀ out ys zs rest : List ℕ) (a b : ℕ) → a ≤ b → b ≤ length out₀ → out ≡ take b out₀ ++ (zs ++ rest) → put_mid a (b - a) out ys ≡ take a out₀ ++ ((ys ++ zs) ++ rest)
put-before out₀ out ys zs rest a b ab in-out is =
    let e : length (take b out₀) ≡ b = length-take-le b out₀ in-out in
    let z : a + (b - a) ≡ b = omega arith in
    let low : take a out ≡ take a out₀ = ap (take a) is ∙ take-append-le a (take b out₀) (zs ++ rest) (omega arith) ∙ take-take a b out₀ ab in
    let high : drop (b - a) (drop a out) ≡ zs ++ rest = drop-drop (b - a) a out ∙ ap (λ k. drop k out) z ∙ ap (drop b) is ∙ drop_at (take b out₀) (zs ++ rest) b e in
    ap (λ l. l ++ (ys ++ drop (b - a) (drop a out))) low ∙ ap (λ l. take a out₀ ++ (ys ++ l)) high ∙ ap (λ l. take a out₀ ++ l) (sym (append_assoc ys zs rest))

module _ (w : List ℕ) (s : Serializer) where
  -- one object more is laid
  pub so_far_more : (n h l : ℕ) → Chain w s n h l → (out₀ out ys : List ℕ) (i : ℕ) → i < n → size (pool_to w s n) ≤ length out₀ → out ≡ so_far w s out₀ n i → ys ≡ patched (object_at w s i).bytes (object_at w s i).links (pool_to w s (suc i)) → put_mid ((entry_at s i).head - h) ((entry_at s i).tail - h - ((entry_at s i).head - h)) out ys ≡ so_far w s out₀ n (i + 1)
  so_far_more n h l chain out₀ out ys i lt room is laid-now =
      let p = entry-places w s n h l chain i lt in
      let rest = drop (size (pool_to w s n)) out₀ in
      let a = (entry_at s i).head - h in
      let b = (entry_at s i).tail - h in
      let e : suc i ≡ i + 1 = omega arith in
      let is' : out ≡ take b out₀ ++ (laid (pool_to w s i) ++ rest) = is ∙ ap (λ k. take k out₀ ++ (laid (pool_to w s i) ++ rest)) (sym p.3) in
      put-before out₀ out ys (laid (pool_to w s i)) rest a b (omega (arith, p.0, p.1)) (omega (arith, p.4)) is'
      ∙ ap (λ y. take a out₀ ++ ((y ++ laid (pool_to w s i)) ++ rest)) laid-now
      ∙ ap (λ k. take k out₀ ++ (laid (pool_to w s (suc i)) ++ rest)) p.2
      ∙ ap (λ j. so_far w s out₀ n j) e

  pub entry_of : (c : Counts) (i : ℕ) → Sound w s c → i < c.objects → Entry w s 0 0 i × (i < 2048)
  entry_of c i sound lt =
      let e = entry_in w s c.objects c.tail c.ltail i sound.base.chain lt in
      (record { low = omega arith; size = e.size; high = e.high; link_low = omega arith; link_size = e.link_size; link_high = e.link_high; hashed = e.hashed }, omega (arith, sound.base.few))

  pub entry-lies : (c : Counts) (i : ℕ) → Sound w s c → i < c.objects → Lies (entry_at s i) (length w)
  entry-lies c i sound lt = let e = (entry_of c i sound lt).0 in record { size = e.size; high = omega (arith, e.high); link_size = e.link_size; link_high = e.link_high }

  pub piece_is : (c : Counts) (k : ℕ) → Sound w s c → k < c.objects → ((entry_at s k).head - c.tail ≡ place (pool_to w s c.objects) k) × ((object_at w s k).bytes ≡ (number (pool_to w s c.objects) k).bytes) × ((object_at w s k).links ≡ (number (pool_to w s c.objects) k).links)
  piece_is c k sound lt =
      let e = entry-places w s c.objects c.tail c.ltail sound.base.chain k lt in
      let o = number_of w s c.objects k lt in
      (e.2 ∙ ap (λ p. size (pool_to w s c.objects) - size p) (sym (from-pool w s c.objects k lt)), ap (λ (x : Object). x.bytes) (sym o), ap (λ (x : Object). x.links) (sym o))
