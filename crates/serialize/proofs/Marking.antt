-- What a mark puts back: counts under which all is as it was, since later calls only added to it.
use Rattle.std.proofs.Common.{◌≡◌, ℕ, ◌+◌, ◌-◌, ◌<◌, ◌≤◌, ◌⊎◌, List, [], ◌∷◌, length, take, replicate, Err, Result, sym, refl, ap, ◌∙◌, subst, inl, inr, ⊎_elim, arith}
use Rattle.serialize.specs.declared.faults.Fault.{Fault}
use Rattle.serialize.specs.declared.tables.Width.{Width}
use Rattle.serialize.specs.declared.tables.Width.TheVariants.{Two, Four}
use Rattle.serialize.specs.declared.tables.Link.{Link}
use Rattle.serialize.specs.declared.tables.Counts.{Counts}
use Rattle.serialize.specs.declared.tables.Serializer.{Serializer}
use Rattle.std.specs.List.{between}
use Rattle.std.proofs.lemmas.Bool.{cases_order}
use Rattle.serialize.specs.Objects.{width_of, last_end, Fields}
use Rattle.serialize.specs.Tables.{start_at, sink_of, Sound, Kept}
use Rattle.serialize.specs.Calls.{Before, embedded, linked, Takes, Embeds, Links, Unlinked, Fits, Offsets, TakenBack, OffsetAdded, OffsetAnswered}
use Rattle.std.proofs.lemmas.List.{length-replicate}
use Rattle.serialize.proofs.Parts.{drop-same, take_same}
use Rattle.serialize.proofs.Embeds.{longer}
use Rattle.serialize.proofs.Fielding.{linked-counts, fields-push, fields-last}
use Rattle.serialize.proofs.Packings.{top_of}
use Rattle.serialize.proofs.Keeps.{sink-same, fields-more, pool-kept, base_kept, stacked-kept}

pub kept_refl : (c : Counts) (w : List ℕ) (s : Serializer) → Kept c w s w s
kept_refl c w s = record { length_work = refl; head = refl; tail = refl; link_head = refl; link_tail = refl; entries = refl; frames = refl }

pub kept_trans : (c : Counts) (w w' w'' : List ℕ) (s s' s'' : Serializer) → Kept c w s w' s' → Kept c w' s' w'' s'' → Kept c w s w'' s''
kept_trans c w w' w'' s s' s'' a b = record {
  length_work = b.length_work ∙ a.length_work;
  head = b.head ∙ a.head;
  tail = b.tail ∙ a.tail;
  link_head = b.link_head ∙ a.link_head;
  link_tail = b.link_tail ∙ a.link_tail;
  entries = b.entries ∙ a.entries;
  frames = b.frames ∙ a.frames;
}

pub kept-earlier : (f c : Counts) (w w' : List ℕ) (s s' : Serializer) → Before f c → Kept c w s w' s' → Kept f w s w' s'
kept-earlier f c w w' s s' o k = record {
  length_work = k.length_work;
  head = take_same w w' f.head c.head o.heads k.head;
  tail = drop-same w w' c.tail f.tail o.tails k.tail;
  link_head = take_same s.links s'.links f.lhead c.lhead o.link_heads k.link_head;
  link_tail = drop-same s.links s'.links c.ltail f.ltail o.link_tails k.link_tail;
  entries = take_same s.packed s'.packed f.objects c.objects o.more k.entries;
  frames = take_same s.frames s'.frames f.depth c.depth o.depths k.frames;
}

-- counts put back are sound, and mean what they meant; later is any sound sink over the same tables
pub sound-kept : (c later : Counts) (w w' : List ℕ) (s s' : Serializer) → Sound w s c → Sound w' s' later → Kept c w s w' s' → Sound w' s' c × (sink_of w' s' c ≡ sink_of w s c)
sound-kept c later w w' s s' a b k =
    let p = pool-kept w w' s s' k.length_work c a.base.chain k in
    let t = stacked-kept w w' s s' k.length_work c.depth c a.stacked k in
    (record { shallow = a.shallow; frames = b.frames; entries = b.entries; links = b.links; base = base_kept w w' s s' k.length_work c a.base k; stacked = t.0 }, sink-same _ _ _ _ _ _ _ _ p.1 t.1 refl refl)

fields-end : (lo : ℕ) (ls : List Link) (m n : ℕ) → Fields lo ls m n → last_end lo ls ≤ m
fields-end lo [] m n f = f
fields-end lo (l ∷ ls) m n (a, b, f) = fields-end (l.position + width_of l.width) ls m n f

-- a field just added takes the link, if there is the target
no_target : (v : Width) (t : ℕ) (w : List ℕ) (s : Serializer) (c c₁ : Counts) (p : ℕ) → Sound w s c → 0 < c.depth → c₁ ≡ longer c (width_of v) → p ≡ c.head - (start_at s (c.depth - 1)).head → (Takes s c₁ (record { position = p; target = t; width = v }) → ⊥) → c.objects ≤ t
no_target v t w s c c₁ p sound some ce pe refused =
    let f = start_at s (c.depth - 1) in
    let o = (top_of w s c c.depth sound.stacked refl some).opened in
    let ls = between f.lhead c.lhead s.links in
    let m = c.head - f.head in
    let m' = c.head + width_of v - f.head in
    let big : m + width_of v ≤ m' = omega (arith, o.heads) in
    let takes : t < c.objects → Takes s (longer c (width_of v)) (record { position = m; target = t; width = v }) = λ lt. (some, fields-push 0 ls (record { position = m; target = t; width = v }) m' c.objects (fields-more 0 ls m c.objects m' c.objects o.fields (omega arith) (omega arith)) (fields-end 0 ls m c.objects o.fields) lt big) in
    let never : Takes s (longer c (width_of v)) (record { position = m; target = t; width = v }) → ⊥ = subst (λ q. Takes s (longer c (width_of v)) (record { position = q; target = t; width = v }) → ⊥) pe (subst (λ (d : Counts). Takes s d (record { position = p; target = t; width = v }) → ⊥) ce refused) in
    ⊎_elim (λ (e : t ≡ c.objects). omega arith) (⊎_elim (λ (lt : t < c.objects). absurd (never (takes lt))) (λ (gt : c.objects < t). omega arith)) (cases_order t c.objects)

-- an offset's field and link: both added, or the first taken back
module _ (v : Width) (t : ℕ) (w w' : List ℕ) (s s' : Serializer) (c : Counts) (sound : Sound w s c) (some : 0 < c.depth) (p : ℕ) (at : p ≡ c.head - (start_at s (c.depth - 1)).head) where
  field-counts : (c₁ : Counts) (b : List ℕ) → Embeds b w w' s c c₁ → b ≡ replicate (width_of v) 0 → (length b ≡ width_of v) × (c₁ ≡ longer c (width_of v))
  field-counts c₁ b e zeros =
      let lb : length b ≡ width_of v = ap length zeros ∙ length-replicate (width_of v) 0 in
      (lb, e.counts ∙ ap (λ n. longer c n) lb)

  pub offset-refused : (c₁ c₂ c' : Counts) (b : List ℕ) (r : Result Unit Fault) (f : Fault) → r ≡ Err f → c' ≡ c → Embeds b w w' s c c₁ → b ≡ replicate (width_of v) 0 → Unlinked (record { position = p; target = t; width = v }) s s' c₁ c₂ f → OffsetAdded v t w w' s s' c c' r × OffsetAnswered v t c r
  offset-refused c₁ c₂ c' b r f is back e zeros u =
      let q = field-counts c₁ b e zeros in
      let h : c₁.lhead ≡ c.lhead = ap (λ (d : Counts). d.lhead) q.1 in
      let l : c₁.ltail ≡ c.ltail = ap (λ (d : Counts). d.ltail) q.1 in
      let why : (c.lhead ≡ c.ltail) ⊎ (c.objects ≤ t) = ⊎_elim (λ full. inl (sym h ∙ full ∙ l)) (λ (none : Takes s c₁ (record { position = p; target = t; width = v }) → ⊥). inr (no_target v t w s c c₁ p sound some q.1 at none)) u.why in
      let also : Sound w' s' c₁ = subst (λ (y : Serializer). Sound w' y c₁) (sym u.tables) e.sound in
      let k : Kept c w s w' s' = subst (λ (y : Serializer). Kept c w s w' y) (sym u.tables) e.kept in
      let z = sound-kept c c₁ w w' s s' sound also k in
      subst (λ (y : Result Unit Fault). OffsetAdded v t w w' s s' c c' y × OffsetAnswered v t c y) (sym is) (subst (λ (d : Counts). TakenBack w w' s s' c d) (sym back) (record { counts = refl; sound = z.0; sink = z.1; kept = k }), inr (u.fault, inr why))

  pub offset-added : (c₁ c₂ c' : Counts) (b : List ℕ) → Embeds b w w' s c c₁ → b ≡ replicate (width_of v) 0 → Links (record { position = p; target = t; width = v }) w' s s' c₁ c₂ → c' ≡ c₂ → Offsets v t w w' s s' c c' × Fits v t c
  offset-added c₁ c₂ c' b e zeros l is =
      let q = field-counts c₁ b e zeros in
      let h : c₁.lhead ≡ c.lhead = ap (λ (d : Counts). d.lhead) q.1 in
      let lt : c₁.ltail ≡ c.ltail = ap (λ (d : Counts). d.ltail) q.1 in
      let o : c₁.objects ≡ c.objects = ap (λ (d : Counts). d.objects) q.1 in
      let before : Before c c₁ = subst (λ (d : Counts). Before c d) (sym q.1) (record { heads = omega arith; tails = omega arith; link_heads = omega arith; link_tails = omega arith; more = omega arith; depths = omega arith }) in
      let k : Kept c w s w' s' = kept_trans c w w' w' s s s' e.kept (kept-earlier c c₁ w' w' s s' before l.kept) in (
        subst (λ (d : Counts). Offsets v t w w' s s' c d) (sym is) (record {
          counts = l.counts ∙ ap linked-counts q.1;
          sound = l.sound;
          sink = l.sink ∙ ap (linked (record { position = p; target = t; width = v })) (e.sink ∙ ap (λ (y : List ℕ). embedded y (sink_of w s c)) zeros) ∙ ap (λ n. linked (record { position = n; target = t; width = v }) (embedded (replicate (width_of v) 0) (sink_of w s c))) at;
          kept = k;
        }),
        record {
          opened = some;
          room = omega (arith, q.0, e.room);
          spare = omega (arith, l.room);
          target = omega (arith, (fields-last 0 _ (record { position = p; target = t; width = v }) _ _ l.takes.1).1);
        },
      )

pub zeros-are : (v : Width) (n : ℕ) → n ≡ width_of v → take {A = ℕ} (n - 0) (0 ∷ 0 ∷ 0 ∷ 0 ∷ []) ≡ replicate (width_of v) 0
zeros-are Two n e = ap (λ k. take {A = ℕ} (k - 0) (0 ∷ 0 ∷ 0 ∷ 0 ∷ [])) e
zeros-are Four n e = ap (λ k. take {A = ℕ} (k - 0) (0 ∷ 0 ∷ 0 ∷ 0 ∷ [])) e
