-- What a laid pool carries.
use Rattle.std.proofs.Common.{◌≡◌, ℕ, zero, suc, ◌+◌, ◌-◌, ◌<◌, ◌≤◌, ◌⊎◌, List, [], ◌∷◌, ◌++◌, length, get_or, take, drop, sym, refl, ap, ◌∙◌, subst, inl, inr, ⊎_elim, arith}
use lib.Seq.{paste}
use Rattle.std.specs.List.{between}
use Rattle.std.proofs.lemmas.List.{append_assoc, take-append-le, take_all, drop-drop, drop_at, get_or_append_left, get_or-append-add, places}
use Rattle.std.proofs.lemmas.List.Edits.{length-paste}
use Rattle.std.proofs.lemmas.Slice.{between_is}
use Rattle.std.proofs.lemmas.Bool.{cases_order}
use Rattle.serialize.specs.declared.tables.Link.{Link}
use Rattle.serialize.specs.Objects.{Object, none, width_of, size, from, number, Fields, Linked}
use Rattle.serialize.specs.Laying.{field, put, place, distance, patched, laid, Outside, Fielded, Carried}
use Rattle.serialize.proofs.Parts.{take_same, take-paste-low, between-paste}
use Rattle.serialize.proofs.Layings.{length-field, fields_in}

abbrev past : Link → ℕ
past l = l.position + width_of l.width

-- a place that a write does not reach
outside : (d : List ℕ) (at : ℕ) (s : List ℕ) (n i : ℕ) → at + n ≤ length d → n ≡ length s → (i < at) ⊎ (at + n ≤ i) → get_or (paste d at s n) i 0 ≡ get_or d i 0
outside d at s n i in-d e (inl a) = grind (arith, places)
outside d at s n i in-d e (inr b) = grind (arith, places)

module _ (q : List Object) where
  abbrev one : List ℕ → Link → List ℕ
  one bs l = put bs l.position (field l.width (distance q l))

  -- one field written
  module _ (bs : List ℕ) (l : Link) (in-bs : past l ≤ length bs) where
    n : length (field l.width (distance q l)) ≡ width_of l.width
    n = length-field l.width (distance q l)

    fits : l.position + length (field l.width (distance q l)) ≤ length bs
    fits = omega (arith, n)

    pub one-length : length (one bs l) ≡ length bs
    one-length = length-paste bs l.position (field l.width (distance q l)) (length (field l.width (distance q l))) fits (omega arith)

    pub one_field : between l.position (past l) (one bs l) ≡ field l.width (distance q l)
    one_field =
        let f = field l.width (distance q l) in
        ap (λ k. between l.position (l.position + k) (one bs l)) (sym n) ∙ between-paste bs l.position f (length f) fits (omega arith) ∙ take_all (length f) f (omega arith)

    pub one-low : (k : ℕ) → k ≤ l.position → take k (one bs l) ≡ take k bs
    one-low k le = take-paste-low bs l.position (field l.width (distance q l)) (length (field l.width (distance q l))) fits (omega arith) k le

    pub one_outside : (i : ℕ) → (i < l.position) ⊎ (past l ≤ i) → get_or (one bs l) i 0 ≡ get_or bs i 0
    one_outside i h = outside bs l.position (field l.width (distance q l)) (length (field l.width (distance q l))) i fits refl (⊎_elim (λ a. inl a) (λ b. inr (omega (arith, n))) h)

  pub patched-length : (lo : ℕ) (ls : List Link) (bs : List ℕ) (m : ℕ) → Fields lo ls (length bs) m → length (patched bs ls q) ≡ length bs
  patched-length lo [] bs m f = refl
  patched-length lo (l ∷ ls) bs m (a, b, f) =
      let e = one-length bs l (fields_in (past l) ls (length bs) m f) in
      patched-length (past l) ls (one bs l) m (subst (λ k. Fields (past l) ls k m) (sym e) f) ∙ e

  -- what stands before the first field stays
  pub patched-low : (lo : ℕ) (ls : List Link) (bs : List ℕ) (m : ℕ) → Fields lo ls (length bs) m → take lo (patched bs ls q) ≡ take lo bs
  patched-low lo [] bs m f = refl
  patched-low lo (l ∷ ls) bs m (a, b, f) =
      let w = fields_in (past l) ls (length bs) m f in
      let e = one-length bs l w in
      take_same (one bs l) (patched (one bs l) ls q) lo (past l) (omega arith) (patched-low (past l) ls (one bs l) m (subst (λ k. Fields (past l) ls k m) (sym e) f)) ∙ one-low bs l w lo a

  pub patched-fields : (lo : ℕ) (ls : List Link) (bs : List ℕ) (m : ℕ) → Fields lo ls (length bs) m → Fielded ls (λ l. (l.target < m) × (past l ≤ length bs) × (between l.position (past l) (patched bs ls q) ≡ field l.width (distance q l)))
  patched-fields lo [] bs m f = tt
  patched-fields lo (l ∷ ls) bs m (a, b, f) =
      let w = fields_in (past l) ls (length bs) m f in
      let e = one-length bs l w in
      let f' : Fields (past l) ls (length (one bs l)) m = subst (λ k. Fields (past l) ls k m) (sym e) f in
      let low = patched-low (past l) ls (one bs l) m f' in
      let here : between l.position (past l) (patched (one bs l) ls q) ≡ field l.width (distance q l) = between_is (patched (one bs l) ls q) l.position (past l) ∙ ap (drop l.position) low ∙ sym (between_is (one bs l) l.position (past l)) ∙ one_field bs l w in
      ((b, w, here), subst (λ k. Fielded ls (λ j. (j.target < m) × (past j ≤ k) × (between j.position (past j) (patched (one bs l) ls q) ≡ field j.width (distance q j)))) e (patched-fields (past l) ls (one bs l) m f'))

  pub patched-outside : (lo : ℕ) (ls : List Link) (bs : List ℕ) (m i : ℕ) → Fields lo ls (length bs) m → Outside ls i → get_or (patched bs ls q) i 0 ≡ get_or bs i 0
  patched-outside lo [] bs m i f o = refl
  patched-outside lo (l ∷ ls) bs m i (a, b, f) (o, os) =
      let w = fields_in (past l) ls (length bs) m f in
      let e = one-length bs l w in
      patched-outside (past l) ls (one bs l) m i (subst (λ k. Fields (past l) ls k m) (sym e) f) os ∙ one_outside bs l w i o

pub fielded-map : (ls : List Link) (P Q : Link → Type 0) → ((l : Link) → P l → Q l) → Fielded ls P → Fielded ls Q
fielded-map [] P Q g h = tt
fielded-map (l ∷ ls) P Q g (a, h) = (g l a, fielded-map ls P Q g h)

size-drop : (j : ℕ) (p : List Object) → size (drop j p) ≤ size p
size-drop zero p = omega arith
size-drop (suc j) [] = omega arith
size-drop (suc j) (o ∷ p) = omega (arith, size-drop j p)

-- numbers in a pool with one object more
module _ (o : Object) (p : List Object) where
  newest-from : from (o ∷ p) (length p) ≡ o ∷ p
  newest-from = let z : suc (length p) - suc (length p) ≡ 0 = omega arith in ap (λ j. drop j (o ∷ p)) z

  pub newest-number : number (o ∷ p) (length p) ≡ o
  newest-number = let z : suc (length p) - suc (length p) ≡ 0 = omega arith in ap (λ j. get_or (o ∷ p) j none) z

  pub newest-place : place (o ∷ p) (length p) ≡ 0
  newest-place = let e : size (from (o ∷ p) (length p)) ≡ size (o ∷ p) = ap size newest-from in omega (arith, e)

  module _ (k : ℕ) (lt : k < length p) where
    older-index : suc (length p) - suc k ≡ suc (length p - suc k)
    older-index = omega arith

    pub older-number : number (o ∷ p) k ≡ number p k
    older-number = ap (λ j. get_or (o ∷ p) j none) older-index

    pub older-place : place (o ∷ p) k ≡ length o.bytes + place p k
    older-place =
        let e : size (from (o ∷ p) k) ≡ size (from p k) = ap (λ j. size (drop j (o ∷ p))) older-index in
        omega (arith, e, size-drop (length p - suc k) p)

between-past : (a b : List ℕ) (x y : ℕ) → between (length a + x) (length a + y) (a ++ b) ≡ between x y b
between-past a b x y =
    let z : length a + y - (length a + x) ≡ y - x = omega arith in
    let d : drop (length a + x) (a ++ b) ≡ drop x b = sym (drop-drop x (length a) (a ++ b)) ∙ ap (drop x) (drop_at a b (length a) refl) in
    ap (λ j. take j (drop (length a + x) (a ++ b))) z ∙ ap (take (y - x)) d

between-front : (a b : List ℕ) (x y : ℕ) → y ≤ length a → between x y (a ++ b) ≡ between x y a
between-front a b x y le = between_is (a ++ b) x y ∙ ap (drop x) (take-append-le y a b le) ∙ sym (between_is a x y)

abbrev Held : List Object → List ℕ → ℕ → Link → Type 0
Held p b k l = (l.target < length p) × (between (place p k + l.position) (place p k + l.position + width_of l.width) b ≡ field l.width (place p l.target - place p k))

module _ (rest : List ℕ) where
  -- the newest object in front of the others
  front : (o : Object) (p : List Object) → laid (o ∷ p) ++ rest ≡ patched o.bytes o.links (o ∷ p) ++ (laid p ++ rest)
  front o p = append_assoc (patched o.bytes o.links (o ∷ p)) (laid p) rest

  new-bytes : (o : Object) (p : List Object) → Fields 0 o.links (length o.bytes) (length p) → (i : ℕ) → i < length o.bytes → Outside o.links i → get_or (laid (o ∷ p) ++ rest) (place (o ∷ p) (length p) + i) 0 ≡ get_or o.bytes i 0
  new-bytes o p f i lt out =
      let a = patched o.bytes o.links (o ∷ p) in
      let e = patched-length (o ∷ p) 0 o.links o.bytes (length p) f in
      let z : place (o ∷ p) (length p) + i ≡ i = omega (arith, newest-place o p) in
      ap (λ b. get_or b (place (o ∷ p) (length p) + i) 0) (front o p) ∙ ap (λ j. get_or (a ++ (laid p ++ rest)) j 0) z ∙ get_or_append_left a (laid p ++ rest) 0 i (omega (arith, e)) ∙ patched-outside (o ∷ p) 0 o.links o.bytes (length p) i f out

  new-fields : (o : Object) (p : List Object) → Fields 0 o.links (length o.bytes) (length p) → Fielded o.links (Held (o ∷ p) (laid (o ∷ p) ++ rest) (length p))
  new-fields o p f =
      let a = patched o.bytes o.links (o ∷ p) in
      let e = patched-length (o ∷ p) 0 o.links o.bytes (length p) f in
      let z = newest-place o p in
      fielded-map o.links (λ l. (l.target < length p) × (past l ≤ length o.bytes) × (between l.position (past l) a ≡ field l.width (distance (o ∷ p) l))) (Held (o ∷ p) (laid (o ∷ p) ++ rest) (length p))
      (λ l (old, within, is).
      let x : place (o ∷ p) (length p) + l.position ≡ l.position = omega arith in
      let d : place (o ∷ p) l.target ≡ place (o ∷ p) l.target - place (o ∷ p) (length p) = omega arith in
      (omega arith, ap (λ b. between (place (o ∷ p) (length p) + l.position) (place (o ∷ p) (length p) + l.position + width_of l.width) b) (front o p) ∙ ap (λ j. between j (j + width_of l.width) (a ++ (laid p ++ rest))) x ∙ between-front a (laid p ++ rest) l.position (past l) (omega (arith, e)) ∙ is ∙ ap (field l.width) d))
      (patched-fields (o ∷ p) 0 o.links o.bytes (length p) f)

  pub carried-bytes : (p : List Object) → Linked p → (k i : ℕ) → k < length p → i < length (number p k).bytes → Outside (number p k).links i → get_or (laid p ++ rest) (place p k + i) 0 ≡ get_or (number p k).bytes i 0
  carried-bytes [] h k i lt within out = absurd (omega arith)
  carried-bytes (o ∷ p) (f, h) k i lt within out =
      ⊎_elim
      (λ (e : k ≡ length p).
      let g : (j : ℕ) → j ≡ length p → number (o ∷ p) j ≡ o = λ j ej. ap (number (o ∷ p)) ej ∙ newest-number o p in
      let nb : number (o ∷ p) k ≡ o = g k e in
      let w : i < length o.bytes = subst (λ (x : Object). i < length x.bytes) nb within in
      let u : Outside o.links i = subst (λ (x : Object). Outside x.links i) nb out in
      ap (λ j. get_or (laid (o ∷ p) ++ rest) (place (o ∷ p) j + i) 0) e ∙ new-bytes o p f i w u ∙ sym (ap (λ (x : Object). get_or x.bytes i 0) nb))
      (⊎_elim
      (λ (l : k < length p).
      let nb : number (o ∷ p) k ≡ number p k = older-number o p k l in
      let a = patched o.bytes o.links (o ∷ p) in
      let e = patched-length (o ∷ p) 0 o.links o.bytes (length p) f in
      let z : place (o ∷ p) k + i ≡ length a + (place p k + i) = omega (arith, older-place o p k l, e) in
      let w : i < length (number p k).bytes = subst (λ (x : Object). i < length x.bytes) nb within in
      let u : Outside (number p k).links i = subst (λ (x : Object). Outside x.links i) nb out in
      ap (λ b. get_or b (place (o ∷ p) k + i) 0) (front o p) ∙ ap (λ j. get_or (a ++ (laid p ++ rest)) j 0) z ∙ get_or-append-add a (laid p ++ rest) (place p k + i) 0 ∙ carried-bytes p h k i l w u ∙ sym (ap (λ (x : Object). get_or x.bytes i 0) nb))
      (λ (g : length p < k). absurd (omega arith)))
      (cases_order k (length p))

  old-held : (o : Object) (p : List Object) → Fields 0 o.links (length o.bytes) (length p) → (k : ℕ) → k < length p → (l : Link) → Held p (laid p ++ rest) k l → Held (o ∷ p) (laid (o ∷ p) ++ rest) k l
  old-held o p f k lt l (old, is) =
      let a = patched o.bytes o.links (o ∷ p) in
      let e = patched-length (o ∷ p) 0 o.links o.bytes (length p) f in
      let pk = older-place o p k lt in
      let pt = older-place o p l.target old in
      let x : place (o ∷ p) k + l.position ≡ length a + (place p k + l.position) = omega (arith, pk, e) in
      let y : place (o ∷ p) k + l.position + width_of l.width ≡ length a + (place p k + l.position + width_of l.width) = omega (arith, pk, e) in
      let d : place p l.target - place p k ≡ place (o ∷ p) l.target - place (o ∷ p) k = omega (arith, pk, pt) in
      (omega arith, ap (λ b. between (place (o ∷ p) k + l.position) (place (o ∷ p) k + l.position + width_of l.width) b) (front o p) ∙ ap (λ j. between j (place (o ∷ p) k + l.position + width_of l.width) (a ++ (laid p ++ rest))) x ∙ ap (λ j. between (length a + (place p k + l.position)) j (a ++ (laid p ++ rest))) y ∙ between-past a (laid p ++ rest) (place p k + l.position) (place p k + l.position + width_of l.width) ∙ is ∙ ap (field l.width) d)

  pub carried-fields : (p : List Object) → Linked p → (k : ℕ) → k < length p → Fielded (number p k).links (Held p (laid p ++ rest) k)
  carried-fields [] h k lt = absurd (omega arith)
  carried-fields (o ∷ p) (f, h) k lt =
      ⊎_elim
      (λ (e : k ≡ length p).
      subst (λ j. Fielded (number (o ∷ p) j).links (Held (o ∷ p) (laid (o ∷ p) ++ rest) j)) (sym e) (subst (λ (x : Object). Fielded x.links (Held (o ∷ p) (laid (o ∷ p) ++ rest) (length p))) (sym (newest-number o p)) (new-fields o p f)))
      (⊎_elim
      (λ (l : k < length p).
      subst (λ (x : Object). Fielded x.links (Held (o ∷ p) (laid (o ∷ p) ++ rest) k)) (sym (older-number o p k l)) (fielded-map (number p k).links (Held p (laid p ++ rest) k) (Held (o ∷ p) (laid (o ∷ p) ++ rest) k) (old-held o p f k l) (carried-fields p h k l)))
      (λ (g : length p < k). absurd (omega arith)))
      (cases_order k (length p))

  pub carried : (p : List Object) → Linked p → Carried p (laid p ++ rest)
  carried p h = record {
    bytes = carried-bytes p h;
    fields = λ k lt. fielded-map (number p k).links (Held p (laid p ++ rest) k) (λ l. between (place p k + l.position) (place p k + l.position + width_of l.width) (laid p ++ rest) ≡ field l.width (place p l.target - place p k)) (λ l q. q.1) (carried-fields p h k lt);
  }
