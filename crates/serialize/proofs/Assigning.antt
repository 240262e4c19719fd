-- Bytes of the top object written over.
use Rattle.std.proofs.Common.{◌≡◌, ℕ, zero, suc, ◌+◌, ◌-◌, ◌<◌, ◌≤◌, List, ◌∷◌, length, take, drop, sym, refl, ap, ◌∙◌, subst, arith, rules}
use lib.Seq.{paste}
use Rattle.std.specs.List.{between}
use Rattle.std.proofs.lemmas.List.{same_lists, places}
use Rattle.std.proofs.lemmas.List.Edits.{length-paste, drop-paste}
use Rattle.serialize.specs.declared.tables.Counts.{Counts}
use Rattle.serialize.specs.declared.tables.Serializer.{Serializer}
use Rattle.serialize.specs.Objects.{Object, Linked, Once}
use Rattle.serialize.specs.Tables.{start_at, pool_to, open_at, stack_of, Chain, Base, Opened, Stacked, Sound, Kept}
use Rattle.serialize.specs.Calls.{on_top, written, Assigns}
use Rattle.serialize.proofs.Parts.{drop-same, take-paste-low}
use Rattle.serialize.proofs.Keeps.{object-same, sink-same, chain-kept, base_kept, stacked-kept}

pub between-written : (w : List ℕ) (a e p : ℕ) (b : List ℕ) → a ≤ e → e ≤ length w → p + length b ≤ e - a → between a e (paste w (a + p) b (length b)) ≡ paste (between a e w) p b (length b)
between-written w a e p b le in-w within = same_lists _ _ (search (rules, places)) (λ k d h. grind (arith, places))

module _ (p : ℕ) (b w w' : List ℕ) (s : Serializer) (c : Counts) (sound : Sound w s c) where
  module _ (f : Counts) (o : Opened w s f c) (within : p + length b ≤ c.head - f.head) (is : w' ≡ paste w (f.head + p) b (length b)) where
    in-w : f.head + p + length b ≤ length w
    in-w = omega (arith, o.heads, sound.base.heads, sound.base.tails)

    len : length w' ≡ length w
    len = ap length is ∙ length-paste w (f.head + p) b (length b) in-w (omega arith)

    high : drop c.tail w' ≡ drop c.tail w
    high = drop-same w w' (f.head + p + length b) c.tail (omega (arith, o.heads, sound.base.heads)) (ap (drop (f.head + p + length b)) is ∙ drop-paste w (f.head + p) b (length b) (omega (arith, in-w)) (omega arith))

    kept-start : Kept f w s w' s
    kept-start = record {
      length_work = len;
      head = ap (take f.head) is ∙ take-paste-low w (f.head + p) b (length b) in-w (omega arith) f.head (omega arith);
      tail = drop-same w w' c.tail f.tail o.tails high;
      link_head = refl;
      link_tail = refl;
      entries = refl;
      frames = refl;
    }

    pool : Chain w' s c.objects c.tail c.ltail × (pool_to w' s c.objects ≡ pool_to w s c.objects)
    pool = chain-kept w w' s s len c.objects c.tail c.ltail sound.base.chain high refl (λ i lt. refl)

    base : Base w' s c
    base = let a = sound.base in record {
      heads = a.heads;
      tails = omega (arith, a.tails, len);
      link_heads = a.link_heads;
      link_tails = a.link_tails;
      few = a.few;
      chain = pool.0;
      linked = subst Linked (sym pool.1) a.linked;
      once = subst Once (sym pool.1) a.once;
    }

    opened : Opened w' s f c
    opened = record { heads = o.heads; tails = o.tails; link_heads = o.link_heads; link_tails = o.link_tails; more = o.more; fields = o.fields }

    top : open_at w' s f c ≡ written p b (open_at w s f c)
    top = object-same _ _ _ _ (ap (between f.head c.head) is ∙ between-written w f.head c.head p b o.heads (omega (arith, sound.base.heads, sound.base.tails)) within) refl

  assigns-at : (d : ℕ) → c.depth ≡ d → Stacked w s d c → 0 < d → p + length b ≤ c.head - (start_at s (d - 1)).head → w' ≡ paste w ((start_at s (d - 1)).head + p) b (length b) → Base w' s c × Stacked w' s d c × (pool_to w' s c.objects ≡ pool_to w s c.objects) × (stack_of w' s d c ≡ on_top (written p b) (stack_of w s d c)) × Kept (start_at s (d - 1)) w s w' s
  assigns-at zero n r lt within is = absurd (omega arith)
  assigns-at (suc d) n (e, o, q, r) lt within is =
      let z : suc d - 1 ≡ d = omega arith in
      let f = start_at s d in
      let in' : p + length b ≤ c.head - f.head = subst (λ k. p + length b ≤ c.head - (start_at s k).head) z within in
      let is' : w' ≡ paste w (f.head + p) b (length b) = subst (λ k. w' ≡ paste w ((start_at s k).head + p) b (length b)) z is in
      let k = kept-start f o in' is' in
      let m = stacked-kept w w' s s (len f o in' is') d f r k in
      (base f o in' is', (e, opened f o in' is', base_kept w w' s s (len f o in' is') f q k, m.0), (pool f o in' is').1, ap (λ (y : Object). y ∷ stack_of w' s d f) (top f o in' is') ∙ ap (λ (y : List Object). written p b (open_at w s f c) ∷ y) m.1, subst (λ j. Kept (start_at s j) w s w' s) (sym z) k)

  pub assigns : 0 < c.depth → p + length b ≤ c.head - (start_at s (c.depth - 1)).head → w' ≡ paste w ((start_at s (c.depth - 1)).head + p) b (length b) → Assigns p b w w' s c
  assigns some within is =
      let a = assigns-at c.depth refl sound.stacked some within is in
      record {
        within = within;
        work = is;
        sound = record { shallow = sound.shallow; frames = sound.frames; entries = sound.entries; links = sound.links; base = a.0; stacked = a.1 };
        sink = sink-same _ _ _ _ _ _ _ _ a.2 a.3 refl refl;
        kept = a.4;
      }

  pub assigns-to : 0 < c.depth → p + length b ≤ c.head - (start_at s (c.depth - 1)).head → (a : ℕ) → w' ≡ paste w a b (length b) → a ≡ (start_at s (c.depth - 1)).head + p → Assigns p b w w' s c
  assigns-to some within a is e = assigns some within (is ∙ ap (λ k. paste w k b (length b)) e)
