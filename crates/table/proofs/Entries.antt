-- What stands at the entries of a counted table, by its places and as a list.
use Rattle.std.proofs.Common.{◌≡◌, ℕ, ◌+◌, ◌*◌, Bool, true, false, cond, ltb, List, [], map, get_or, Some, None, sym, refl, ap, ◌∙◌, ⊎_elim, zero-add, arith}
use Rattle.std.specs.List.{range_with_len, slice_get}
use Rattle.std.proofs.lemmas.List.FromFn.{length-map-range_with_len, get_or-map-range_with_len}
use Rattle.std.proofs.lemmas.List.{get_or_past}
use Rattle.std.proofs.lemmas.Option.{slice_get-get_or, slice_get_past}
use Rattle.std.proofs.lemmas.Bool.{cases_lt, lt-ltb, le-ltb, cond-true, cond-false}
use Rattle.source.specs.declared.parts.Standing.{Standing}
use Rattle.source.specs.declared.parts.Standing.TheVariants.{Absent, Unreadable, There}
use Rattle.source.specs.Standings.{mapped}
use Rattle.source.specs.Questions.{variation_records, no_variation}
use Rattle.table.specs.Format.{u16_at, u32_at, entries, entry_place, variations_at, variation_record_at}
use Rattle.table.specs.declared.layouts.Layout.{Layout}
use Rattle.table.specs.Places.{entry_of, variation_of}

-- a list made by a function of the index
pub counted-at : {X : Type 0} (f : ℕ → X) (n i : ℕ) (d : X) → get_or (map f (range_with_len 0 n)) i d ≡ cond (ltb i n) (f i) d
counted-at f n i d =
    ⊎_elim
    (λ h. get_or-map-range_with_len f 0 n i i d h (zero-add i) ∙ sym (cond-true (ltb i n) (f i) d (lt-ltb i n h)))
    (λ h. get_or_past (map f (range_with_len 0 n)) i d (omega (arith, length-map-range_with_len f 0 n)) ∙ sym (cond-false (ltb i n) (f i) d (le-ltb i n h)))
    (cases_lt i n)

pub counted-nth : {X : Type 0} (f : ℕ → X) (n i : ℕ) → slice_get (map f (range_with_len 0 n)) i ≡ cond (ltb i n) (Some (f i)) None
counted-nth f n i =
    ⊎_elim
    (λ h.
    slice_get-get_or (map f (range_with_len 0 n)) i (f i) (omega (arith, length-map-range_with_len f 0 n)) ∙
    (ap Some (get_or-map-range_with_len f 0 n i i (f i) h (zero-add i)) ∙ sym (cond-true (ltb i n) (Some (f i)) None (lt-ltb i n h))))
    (λ h. slice_get_past (map f (range_with_len 0 n)) i (omega (arith, length-map-range_with_len f 0 n)) ∙ sym (cond-false (ltb i n) (Some (f i)) None (le-ltb i n h)))
    (cases_lt i n)

pub mapped-mapped : {X Y Z : Type 0} (f : X → Y) (g : Y → Z) (h : X → Z) → ((x : X) → g (f x) ≡ h x) → (s : Standing X) → mapped g (mapped f s) ≡ mapped h s
mapped-mapped f g h e Absent = refl
mapped-mapped f g h e Unreadable = refl
mapped-mapped f g h e (There x) = ap There (e x)

-- a function of what stands at an entry
pub cond_map : {X Y : Type 0} (g : X → Y) (t : Bool) (x y : X) → g (cond t x y) ≡ cond t (g x) (g y)
cond_map g true x y = refl
cond_map g false x y = refl

-- a function of what stands at an entry
pub entry-map : {X Y : Type 0} (g : X → Y) (b : List ℕ) (l : Layout) (s : Standing ℕ) (i : ℕ) (d : X) (f : ℕ → ℕ → X)
    → g (entry_of b l s i d f) ≡ entry_of b l s i (g d) (λ p e. g (f p e))
entry-map g b l Absent i d f = refl
entry-map g b l Unreadable i d f = refl
entry-map g b l (There p) i d f = cond_map g (ltb i (u16_at b (p + l.head))) (f p (entry_place l p i)) d

-- A counted table T at a place that stands as s, of which L is the list of entries: f p e is what stands at the entry
-- e of the table at p.
module _ {X Y : Type 0} (b : List ℕ) (l : Layout) (T : ℕ → Y) (L : Standing Y → List X) (f : ℕ → ℕ → X)
    (none : L Absent ≡ []) (unread : L Unreadable ≡ []) (lists : (p : ℕ) → L (There (T p)) ≡ entries b l (f p) p) where
  pub getD-entry : (s : Standing ℕ) (i : ℕ) (d : X) → get_or (L (mapped T s)) i d ≡ entry_of b l s i d f
  getD-entry Absent i d = ap (λ xs. get_or xs i d) none
  getD-entry Unreadable i d = ap (λ xs. get_or xs i d) unread
  getD-entry (There p) i d = ap (λ xs. get_or xs i d) (lists p) ∙ counted-at (λ k. f p (entry_place l p k)) (u16_at b (p + l.head)) i d

  pub nth-entry : (s : Standing ℕ) (i : ℕ) → slice_get (L (mapped T s)) i ≡ entry_of b l s i None (λ p e. Some (f p e))
  nth-entry Absent i = ap (λ xs. slice_get xs i) none
  nth-entry Unreadable i = ap (λ xs. slice_get xs i) unread
  nth-entry (There p) i = ap (λ xs. slice_get xs i) (lists p) ∙ counted-nth (λ k. f p (entry_place l p k)) (u16_at b (p + l.head)) i

  -- a field of what stands at an entry
  pub field-entry : {Z : Type 0} (g : X → Z) (s : Standing ℕ) (i : ℕ) (d : X) → g (get_or (L (mapped T s)) i d) ≡ entry_of b l s i (g d) (λ p e. g (f p e))
  field-entry g s i d = ap g (getD-entry s i d) ∙ entry-map g b l s i d f

-- the same of the variation list, whose entries are counted by 32 bits

pub variation-map : {X Y : Type 0} (g : X → Y) (b : List ℕ) (s : Standing ℕ) (i : ℕ) (d : X) (f : ℕ → ℕ → X)
    → g (variation_of b s i d f) ≡ variation_of b s i (g d) (λ p e. g (f p e))
variation-map g b Absent i d f = refl
variation-map g b Unreadable i d f = refl
variation-map g b (There p) i d f = cond_map g (ltb i (u32_at b (p + 4))) (f p (p + 8 + 8 * i)) d

pub variation-entry : (b : List ℕ) (s : Standing ℕ) (i : ℕ) → get_or (variation_records (mapped (variations_at b) s)) i no_variation ≡ variation_of b s i no_variation (variation_record_at b)
variation-entry b Absent i = refl
variation-entry b Unreadable i = refl
variation-entry b (There p) i = counted-at (λ k. variation_record_at b p (p + 8 + 8 * k)) (u32_at b (p + 4)) i no_variation

pub variation-same : {X : Type 0} (b : List ℕ) (s : Standing ℕ) (i : ℕ) (d : X) (f g : ℕ → ℕ → X) → ((p e : ℕ) → f p e ≡ g p e) → variation_of b s i d f ≡ variation_of b s i d g
variation-same b Absent i d f g h = refl
variation-same b Unreadable i d f g h = refl
variation-same b (There p) i d f g h = ap (λ x. cond (ltb i (u32_at b (p + 4))) x d) (h p (p + 8 + 8 * i))

-- a table at an entry that is read by a number at that entry
pub entry-by : {X : Type 0} (b : List ℕ) (l : Layout) (s : Standing ℕ) (i d : ℕ) (n : ℕ → ℕ → ℕ) (F : ℕ → ℕ → X) (q : ℕ → ℕ → Standing ℕ)
    → entry_of b l s i Absent (λ p e. mapped (F (n p e)) (q p e)) ≡ mapped (F (entry_of b l s i d n)) (entry_of b l s i Absent q)
entry-by b l Absent i d n F q = refl
entry-by b l Unreadable i d n F q = refl
entry-by b l (There p) i d n F q =
    let e = entry_place l p i in
    elim (ltb i (u16_at b (p + l.head))) as (λ t. cond t (mapped (F (n p e)) (q p e)) Absent ≡ mapped (F (cond t (n p e) d)) (cond t (q p e) Absent))
    [ true ↦ refl | false ↦ refl ]
