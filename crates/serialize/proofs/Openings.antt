-- Objects opened and discarded.
use Rattle.std.proofs.Common.{◌≡◌, ℕ, zero, suc, ◌+◌, ◌-◌, ◌<◌, ◌≤◌, List, [], ◌∷◌, length, drop, set, sym, refl, ap, ◌∙◌, subst, ⊎_elim, add-one, arith}
use Rattle.std.specs.List.{between}
use Rattle.std.proofs.lemmas.List.{length-set, get_or-set_same, take-set-le}
use Rattle.std.proofs.lemmas.List.Edits.{between_none}
use Rattle.std.proofs.lemmas.Bool.{cases_order}
use Rattle.serialize.specs.declared.tables.Counts.{Counts}
use Rattle.serialize.specs.declared.tables.Frame.{Frame}
use Rattle.serialize.specs.declared.tables.Serializer.{Serializer}
use Rattle.serialize.specs.declared.tokens.Token.{Token}
use Rattle.serialize.specs.Objects.{Object, none, Fields}
use Rattle.serialize.specs.Tables.{end, no_counts, start_at, pool_to, open_at, stack_of, Base, Opened, Stacked, Sound, Kept}
use Rattle.serialize.specs.Calls.{Pushes, Discards}
use Rattle.serialize.proofs.Keeps.{object-same, sink-same, pool-kept, base_kept, stacked-kept, depth_is}

abbrev pub fresh : List ℕ → Counts
fresh w = record { head = 0; tail = end w; lhead = 0; ltail = 4096; objects = 0; depth = 0 }

pub fresh-sound : (w : List ℕ) (s : Serializer) → length s.frames ≡ 8 → length s.packed ≡ 2048 → length s.links ≡ 4096 → Sound w s (fresh w)
fresh-sound w s a b d =
    let base : Base w s (fresh w) = record { heads = omega arith; tails = omega arith; link_heads = omega arith; link_tails = omega arith; few = omega arith; chain = (refl, refl); linked = tt; once = tt } in
    record { shallow = omega arith; frames = a; entries = b; links = d; base = base; stacked = refl }

abbrev pub framed : Serializer → Counts → Serializer
framed s c = record { frames = set s.frames c.depth (record { start = c }); packed = s.packed; links = s.links }

abbrev pub deeper : Counts → Counts
deeper c = record { head = c.head; tail = c.tail; lhead = c.lhead; ltail = c.ltail; objects = c.objects; depth = c.depth + 1 }

module _ (w : List ℕ) (s : Serializer) (c : Counts) (sound : Sound w s c) where
  module _ (room : c.depth < 8) where
    s' : Serializer
    s' = framed s c

    kept : Kept c w s w s'
    unfolding s'
    kept = record { length_work = refl; head = refl; tail = refl; link_head = refl; link_tail = refl; entries = refl; frames = take-set-le c.depth s.frames c.depth (record { start = c }) (omega arith) }

    start : start_at s' c.depth ≡ c
    unfolding s'
    start = ap (λ (f : Frame). f.start) (get_or-set_same s.frames c.depth (record { start = c }) (record { start = no_counts }) (omega (arith, sound.frames)))

    nothing : between c.lhead c.lhead s.links ≡ []
    nothing = between_none s.links c.lhead

    top-opened : Opened w s' c (deeper c)
    unfolding s'
    top-opened = record {
      heads = omega arith;
      tails = omega arith;
      link_heads = omega arith;
      link_tails = omega arith;
      more = omega arith;
      fields = subst (λ ls. Fields 0 ls (c.head - c.head) c.objects) (sym nothing) (omega arith);
    }

    deep : Base w s' c → Base w s' (deeper c)
    deep b = record { heads = b.heads; tails = b.tails; link_heads = b.link_heads; link_tails = b.link_tails; few = b.few; chain = b.chain; linked = b.linked; once = b.once }

    top-empty : open_at w s' c (deeper c) ≡ none
    unfolding s'
    top-empty = object-same _ _ _ _ (between_none w c.head) nothing

    stacked : Stacked w s' (suc c.depth) (deeper c) × (stack_of w s' (suc c.depth) (deeper c) ≡ none ∷ stack_of w s c.depth c)
    stacked =
        let k = stacked-kept w w s s' refl c.depth c sound.stacked kept in
        let b = base_kept w w s s' refl c sound.base kept in (
          (add-one c.depth, subst (λ (g : Counts). Opened w s' g (deeper c)) (sym start) top-opened, subst (λ (g : Counts). Base w s' g) (sym start) b, subst (λ (g : Counts). Stacked w s' c.depth g) (sym start) k.0),
          ap (λ (g : Counts). open_at w s' g (deeper c) ∷ stack_of w s' c.depth g) start ∙ ap (λ (y : Object). y ∷ stack_of w s' c.depth c) top-empty ∙ ap (λ (y : List Object). none ∷ y) k.1,
        )

    pub pushes : (t : Token) → t.level ≡ c.depth + 1 → Pushes w s (framed s c) c (deeper c) t
    unfolding s'
    pushes t e =
        let n : suc c.depth ≡ c.depth + 1 = omega arith in
        let b = base_kept w w s s' refl c sound.base kept in
        let p = pool-kept w w s s' refl c sound.base.chain kept in
        record {
          tables = refl;
          counts = refl;
          level = e;
          sound = record { shallow = omega arith; frames = length-set s.frames c.depth (record { start = c }) ∙ sound.frames; entries = sound.entries; links = sound.links; base = deep b; stacked = subst (λ d. Stacked w s' d (deeper c)) n stacked.0 };
          sink = sink-same _ _ _ _ _ _ _ _ p.1 (ap (λ d. stack_of w s' d (deeper c)) (sym n) ∙ stacked.1) refl refl;
          start = start;
          kept = kept;
        }

    -- the frame as it was recorded
    pub pushes-begun : (f : Frame) (t : Token) → f ≡ record { start = c } → t.level ≡ c.depth + 1 → Pushes w s (record { frames = set s.frames c.depth f; packed = s.packed; links = s.links }) c (deeper c) t
    pushes-begun f t begun e =
        subst (λ (g : Frame). Pushes w s (record { frames = set s.frames c.depth g; packed = s.packed; links = s.links }) c (deeper c) t) (sym begun) (pushes t e)

  pub pool-drop : (m n : ℕ) → m ≤ n → pool_to w s m ≡ drop (n - m) (pool_to w s n)
  pool-drop m zero le = let e : m ≡ 0 = omega arith in rw e refl
  pool-drop m (suc n) le =
      ⊎_elim
      (λ (e : m ≡ suc n). let z : suc n - m ≡ 0 = omega arith in ap (pool_to w s) e ∙ sym (ap (λ k. drop k (pool_to w s (suc n))) z))
      (⊎_elim
      (λ (l : m < suc n). let z : suc n - m ≡ suc (n - m) = omega arith in pool-drop m n (omega arith) ∙ sym (ap (λ k. drop k (pool_to w s (suc n))) z))
      (λ (g : suc n < m). absurd (omega arith)))
      (cases_order m (suc n))

  below : (d : ℕ) → Stacked w s d c → 0 < d → d ≤ 8 → Sound w s (start_at s (d - 1)) × (stack_of w s (d - 1) (start_at s (d - 1)) ≡ drop 1 (stack_of w s d c)) × ((start_at s (d - 1)).objects ≤ c.objects) × ((start_at s (d - 1)).depth ≡ d - 1)
  below zero r lt le = absurd (omega arith)
  below (suc d) (e, o, b, r) lt le =
      let z : d ≡ suc d - 1 = omega arith in
      let p = depth_is w w s s refl d (start_at s d) r in
      let sd : Sound w s (start_at s d) = record { shallow = omega arith; frames = sound.frames; entries = sound.entries; links = sound.links; base = b; stacked = subst (λ k. Stacked w s k (start_at s d)) (sym p) r } in
      subst (λ k. Sound w s (start_at s k) × (stack_of w s k (start_at s k) ≡ drop 1 (stack_of w s (suc d) c)) × ((start_at s k).objects ≤ c.objects) × ((start_at s k).depth ≡ k)) z (sd, refl, o.more, p)

  pub discards : (c' : Counts) (level : ℕ) → 0 < level → level ≡ c.depth → c' ≡ start_at s (level - 1) → Discards w s c c'
  discards c' level lt e is =
      let i : c' ≡ start_at s (c.depth - 1) = is ∙ ap (λ k. start_at s (k - 1)) e in
      let p = below c.depth sound.stacked (omega arith) sound.shallow in
      let f = start_at s (c.depth - 1) in
      subst (λ (g : Counts). Discards w s c g) (sym i) (record {
        counts = refl;
        sound = p.0;
        stack = ap (λ k. stack_of w s k f) p.3 ∙ p.1;
        pool = pool-drop f.objects c.objects p.2;
      })
