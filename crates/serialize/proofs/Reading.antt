-- A tree that a pool stands for is read from its laid bytes.
use Rattle.std.proofs.Common.{◌≡◌, ℕ, suc, ◌+◌, ◌-◌, ◌<◌, ◌≤◌, ◌⊎◌, List, [], ◌∷◌, ◌++◌, length, get_or, drop, sym, refl, ap, ◌∙◌, subst, ⊎_elim, arith}
use Rattle.std.specs.List.{between}
use Rattle.std.proofs.lemmas.Bool.{cases_order}
use Rattle.serialize.specs.declared.tables.Width.{Width}
use Rattle.serialize.specs.declared.tables.Width.TheVariants.{Two, Four}
use Rattle.serialize.specs.declared.tables.Link.{Link}
use Rattle.serialize.specs.Objects.{Object, none, width_of, size, number, Stands, Fields, Linked}
use Rattle.serialize.specs.Laying.{field, place, distance, Within, Short, AllShort, Outside, Fielded, laid, Carried, Lays}
use Rattle.serialize.specs.Trees.{Kids, LinksOf, StandsFor, Readable, Apart, BytesAt, KidsAt, ReadAt, ReadBack, Planted, grafted, Grafted}
use Rattle.serialize.specs.Trees.Kids.{done, kid}
use Rattle.serialize.specs.declared.tables.Counts.{Counts}
use Rattle.serialize.specs.declared.tables.Serializer.{Serializer}
use Rattle.serialize.specs.Tables.{Sink, end, pool_to, sink_of, Sound}
use Rattle.serialize.specs.Calls.{top, on_top, joined, linked, Links, Packs}
use Rattle.serialize.proofs.Packings.{top_of}
use Rattle.serialize.proofs.Layings.{width_small, fields_in, total}
use Rattle.serialize.proofs.Carrying.{fielded-map, newest-number, newest-place, older-number, older-place, carried}

fielded-both : (ls : List Link) (P Q : Link → Type 0) → Fielded ls P → Fielded ls Q → Fielded ls (λ l. P l × Q l)
fielded-both [] P Q a b = tt
fielded-both (l ∷ ls) P Q (a, x) (b, y) = ((a, b), fielded-both ls P Q x y)

short-fielded : (q : List Object) (ls : List Link) → Short q ls → Fielded ls (λ l. Within l.width (distance q l))
short-fielded q [] h = tt
short-fielded q (l ∷ ls) (a, h) = (a, short-fielded q ls h)

fields-targets : (lo : ℕ) (ls : List Link) (m n : ℕ) → Fields lo ls m n → Fielded ls (λ l. (l.target < n) × (l.position + width_of l.width ≤ m))
fields-targets lo [] m n f = tt
fields-targets lo (l ∷ ls) m n (a, b, f) = ((b, fields_in (l.position + width_of l.width) ls m n f), fields-targets (l.position + width_of l.width) ls m n f)

-- a link leads to an older number, at least as far as its object is long, and within its width
abbrev Ranged : List Object → ℕ → Link → Type 0
Ranged p k l = (l.target < k) × (0 < place p l.target - place p k) × Within l.width (place p l.target - place p k)

place-within : (p : List Object) (k : ℕ) → place p k ≤ size p
place-within p k = omega arith

new-ranged : (o : Object) (p : List Object) → Fields 0 o.links (length o.bytes) (length p) → Short (o ∷ p) o.links → Fielded o.links (Ranged (o ∷ p) (length p))
new-ranged o p f h =
    let z = newest-place o p in
    fielded-map o.links (λ l. ((l.target < length p) × (l.position + width_of l.width ≤ length o.bytes)) × Within l.width (distance (o ∷ p) l)) (Ranged (o ∷ p) (length p))
    (λ l ((old, within), w).
    let d : place (o ∷ p) l.target ≡ place (o ∷ p) l.target - place (o ∷ p) (length p) = omega arith in
    let far = older-place o p l.target old in
    let s = width_small l.width in
    (old, omega (arith, far, s.0), subst (λ n. Within l.width n) d w))
    (fielded-both o.links _ _ (fields-targets 0 o.links (length o.bytes) (length p) f) (short-fielded (o ∷ p) o.links h))

old-ranged : (o : Object) (p : List Object) (k : ℕ) → k < length p → (l : Link) → Ranged p k l → Ranged (o ∷ p) k l
old-ranged o p k lt l (old, far, w) =
    let pk = older-place o p k lt in
    let pt = older-place o p l.target (omega arith) in
    let d : place p l.target - place p k ≡ place (o ∷ p) l.target - place (o ∷ p) k = omega (arith, pk, pt) in
    (old, omega (arith, d), subst (λ n. Within l.width n) d w)

ranged : (p : List Object) → Linked p → AllShort p → (k : ℕ) → k < length p → Fielded (number p k).links (Ranged p k)
ranged [] h a k lt = absurd (omega arith)
ranged (o ∷ p) (f, h) (g, a) k lt =
    ⊎_elim
    (λ (e : k ≡ length p).
    subst (λ j. Fielded (number (o ∷ p) j).links (Ranged (o ∷ p) j)) (sym e) (subst (λ (x : Object). Fielded x.links (Ranged (o ∷ p) (length p))) (sym (newest-number o p)) (new-ranged o p f g)))
    (⊎_elim
    (λ (l : k < length p).
    subst (λ (x : Object). Fielded x.links (Ranged (o ∷ p) k)) (sym (older-number o p k l)) (fielded-map (number p k).links (Ranged p k) (Ranged (o ∷ p) k) (old-ranged o p k l) (ranged p h a k l)))
    (λ (m : length p < k). absurd (omega arith)))
    (cases_order k (length p))

readable : (v : Width) (d : ℕ) → Within v d → d ≤ 4294967295 → Readable v d
readable Two d w le = w
readable Four d w le = le

outside-from : (p : List Object) (ls : List Link) (ks : Kids) (i : ℕ) → LinksOf p ls ks → Apart ks i → Outside ls i
outside-from p [] done i h a = tt
outside-from p (l ∷ ls) done i h a = absurd h
outside-from p [] (kid v q bs ks more) i h a = absurd h
outside-from p (l ∷ ls) (kid v q bs ks more) i (hv, hq, t, b, k, m) (a, u) =
    (subst (λ x. (i < x) ⊎ (x + width_of l.width ≤ i)) (sym hq) (subst (λ x. (i < q) ⊎ (q + width_of x ≤ i)) (sym hv) a), outside-from p ls more i m u)

module _ (p : List Object) (b : List ℕ) (linked : Linked p) (short : AllShort p) (small : size p ≤ 4294967295) (c : Carried p b) where
  -- what is known of a link of number k
  abbrev Known : ℕ → Link → Type 0
  Known k l = Ranged p k l × (between (place p k + l.position) (place p k + l.position + width_of l.width) b ≡ field l.width (place p l.target - place p k))

  known : (k : ℕ) → k < length p → Fielded (number p k).links (Known k)
  known k lt = fielded-both (number p k).links (Ranged p k) _ (ranged p linked short k lt) (c.fields k lt)

  bytes_read : (k : ℕ) (bs : List ℕ) (ks : Kids) → k < length p → (number p k).bytes ≡ bs → LinksOf p (number p k).links ks → BytesAt b (place p k) bs ks
  bytes_read k bs ks lt e h i within a =
      c.bytes k i lt (subst (λ x. i < length x) (sym e) within) (outside-from p (number p k).links ks i h a) ∙ ap (λ x. get_or x i 0) e

  kids-read : (k : ℕ) (ls : List Link) (ks : Kids) → k < length p → Fielded ls (Known k) → LinksOf p ls ks → KidsAt b (place p k) ks
  kids-read k [] done lt f h = tt
  kids-read k (l ∷ ls) done lt f h = absurd h
  kids-read k [] (kid v q bs ks more) lt f h = absurd h
  kids-read k (l ∷ ls) (kid v q bs ks more) lt (((old, far, w), is), f) (hv, hq, t, e, kh, mh) =
      let d = place p l.target - place p k in
      let there : place p l.target ≡ place p k + d = omega arith in
      let r : Readable l.width d = readable l.width d w (omega (arith, place-within p l.target)) in
      let is' : between (place p k + q) (place p k + q + width_of v) b ≡ field v d = subst (λ x. between (place p k + q) (place p k + q + width_of x) b ≡ field x d) hv (subst (λ x. between (place p k + x) (place p k + x + width_of l.width) b ≡ field l.width d) hq is) in
      let bytes-there : BytesAt b (place p k + d) bs ks = subst (λ x. BytesAt b x bs ks) there (bytes_read l.target bs ks t e kh) in
      let kids-there : KidsAt b (place p k + d) ks = subst (λ x. KidsAt b x ks) there (kids-read l.target (number p l.target).links ks t (known l.target t) kh) in
      ((d, far, subst (λ x. Readable x d) hv r, is', bytes-there, kids-there), kids-read k ls more lt f mh)

  pub read_back : (k : ℕ) (bs : List ℕ) (ks : Kids) → StandsFor p k bs ks → ReadAt b (place p k) bs ks
  read_back k bs ks (lt, e, h) = (bytes_read k bs ks lt e h, kids-read k (number p k).links ks lt (known k lt) h)

-- the newest object stands at the start
root-place : (p : List Object) → 0 < length p → place p (length p - 1) ≡ 0
root-place [] lt = absurd (omega arith)
root-place (o ∷ p) lt = let z : suc (length p) - 1 ≡ length p = omega arith in ap (place (o ∷ p)) z ∙ newest-place o p

pub reads : (p : List Object) (b : List ℕ) → Linked p → AllShort p → size p ≤ 4294967295 → Carried p b → ReadBack p b
reads p b h a s c = record {
  each = read_back p b h a s c;
  root = λ bs ks q. let z : place p (length p - 1) ≡ 0 = root-place p (omega (arith, q.0)) in subst (λ x. ReadAt b x bs ks) z (read_back p b h a s c (length p - 1) bs ks q);
}

-- the packed objects laid, as a reader finds them
pub lays-read : (w : List ℕ) (s : Serializer) (c : Counts) (out out' : List ℕ) (n : ℕ) → Sound w s c → AllShort (pool_to w s c.objects) → n ≡ end w - c.tail → n ≤ length out → (size (pool_to w s c.objects) ≤ length out → out' ≡ laid (pool_to w s c.objects) ++ drop (size (pool_to w s c.objects)) out) → Lays (pool_to w s c.objects) out out' n × ReadBack (pool_to w s c.objects) out'
lays-read w s c out out' n sound short e room is =
    let p = pool_to w s c.objects in
    let t = total w s c.objects c.tail c.ltail sound.base.chain in
    let all : size p ≤ length out = omega arith in
    let found : Carried p out' = subst (Carried p) (sym (is all)) (carried (drop (size p) out) p sound.base.linked) in
    (record { count = omega arith; short = short; room = all; bytes = is all; carried = found }, reads p out' sound.base.linked short (omega arith) found)

-- a pool with one object more stands for what it stood for
links-grow : (o : Object) (p : List Object) (ls : List Link) (ks : Kids) → LinksOf p ls ks → LinksOf (o ∷ p) ls ks
links-grow o p [] done h = tt
links-grow o p (l ∷ ls) done h = absurd h
links-grow o p [] (kid v q bs ks more) h = absurd h
links-grow o p (l ∷ ls) (kid v q bs ks more) (hv, hq, t, e, kh, mh) =
    let n : number (o ∷ p) l.target ≡ number p l.target = older-number o p l.target t in
    (hv, hq, omega arith, ap (λ (x : Object). x.bytes) n ∙ e, subst (λ (x : Object). LinksOf (o ∷ p) x.links ks) (sym n) (links-grow o p (number p l.target).links ks kh), links-grow o p ls more mh)

stands-grow : (o : Object) (p : List Object) (k : ℕ) (bs : List ℕ) (ks : Kids) → StandsFor p k bs ks → StandsFor (o ∷ p) k bs ks
stands-grow o p k bs ks (lt, e, h) =
    let n : number (o ∷ p) k ≡ number p k = older-number o p k lt in
    (omega arith, ap (λ (x : Object). x.bytes) n ∙ e, subst (λ (x : Object). LinksOf (o ∷ p) x.links ks) (sym n) (links-grow o p (number p k).links ks h))

pub planted-shared : (x : Object) (p : List Object) (k : ℕ) → Stands x p k → Planted x p p k
planted-shared x p k (lt, e) = record {
  tree = λ ks h. (lt, ap (λ (y : Object). y.bytes) e, subst (λ (y : Object). LinksOf p y.links ks) (sym e) h);
  others = λ j bs ks h. h;
}

pub planted-new : (x : Object) (p : List Object) → Planted x p (x ∷ p) (length p)
planted-new x p = record {
  tree = λ ks h. let n = newest-number x p in (omega arith, ap (λ (y : Object). y.bytes) n, subst (λ (y : Object). LinksOf (x ∷ p) y.links ks) (sym n) (links-grow x p x.links ks h));
  others = stands-grow x p;
}

-- a link added after the links of kids leads to a kid more
grafts : (p : List Object) (ls : List Link) (l : Link) (ks : Kids) (bs : List ℕ) (sub : Kids) → LinksOf p ls ks → StandsFor p l.target bs sub → LinksOf p (ls ++ l ∷ []) (grafted ks l.width l.position bs sub)
grafts p [] l done bs sub h (t, e, kh) = (refl, refl, t, e, kh, tt)
grafts p (m ∷ ls) l done bs sub h s = absurd h
grafts p [] l (kid v q cs ks more) bs sub h s = absurd h
grafts p (m ∷ ls) l (kid v q cs ks more) bs sub (hv, hq, t, e, kh, mh) s = (hv, hq, t, e, kh, grafts p ls l more bs sub mh s)

-- what packing leaves
pub packs-planted : (w w' : List ℕ) (s s' : Serializer) (c c' : Counts) (k : ℕ) → Packs w w' s s' c c' k → Planted (top (sink_of w s c)) (sink_of w s c).pool (sink_of w' s' c').pool k
packs-planted w w' s s' c c' k h =
    let x = top (sink_of w s c) in
    let p = (sink_of w s c).pool in
    ⊎_elim
    (λ q. subst (λ (y : List Object). Planted x p y k) (sym (ap (λ (z : Sink). z.pool) q.1)) (planted-shared x p k q.0))
    (λ q. subst (λ (y : List Object). Planted x p y k) (sym (ap (λ (z : Sink). z.pool) q.2)) (subst (λ j. Planted x p (x ∷ p) j) (sym q.1) (planted-new x p)))
    h.sink

-- what a link added to the top object leaves
pub links-grafted : (w : List ℕ) (s s' : Serializer) (c c' : Counts) (l : Link) → Sound w s c → Links l w s s' c c' → Grafted (sink_of w s c) (sink_of w s' c') l
links-grafted w s s' c c' l sound h ks bs sub kids target =
    let t = top_of w s c c.depth sound.stacked refl h.takes.0 in
    let k = sink_of w s c in
    let e : top (linked l k) ≡ joined l (top k) = ap (λ (y : List Object). get_or (on_top (joined l) y) 0 none) t.stack ∙ ap (joined l) (sym (ap (λ (y : List Object). get_or y 0 none) t.stack)) in
    subst (λ (y : Sink). LinksOf y.pool (top y).links (grafted ks l.width l.position bs sub)) (sym h.sink)
    (subst (λ (y : Object). LinksOf k.pool y.links (grafted ks l.width l.position bs sub)) (sym e) (grafts k.pool (top k).links l ks bs sub kids target))
