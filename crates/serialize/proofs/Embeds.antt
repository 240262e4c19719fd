-- Bytes added to the top object.
use Rattle.std.proofs.Common.{◌≡◌, ℕ, zero, suc, ◌+◌, ◌-◌, ◌≤◌, List, ◌∷◌, ◌++◌, length, take, drop, sym, refl, ap, ◌∙◌, subst, arith}
use lib.Seq.{paste}
use Rattle.std.specs.List.{between}
use Rattle.std.proofs.lemmas.List.{length-take-le, take-append-le, take_all, drop-append-le, append_assoc}
use Rattle.std.proofs.lemmas.List.Edits.{length-paste, take-paste, drop-paste}
use Rattle.std.proofs.lemmas.Slice.{between_is}
use Rattle.serialize.specs.declared.tables.Counts.{Counts}
use Rattle.serialize.specs.declared.tables.Serializer.{Serializer}
use Rattle.serialize.specs.Objects.{Object}
use Rattle.serialize.specs.Tables.{start_at, open_at, stack_of, Base, Opened, Stacked, Sound, Kept}
use Rattle.serialize.specs.Calls.{on_top, grown, Embeds}
use Rattle.serialize.proofs.Parts.{drop-same}
use Rattle.serialize.proofs.Keeps.{object-same, sink-same, fields-more, pool-kept, base_kept, stacked-kept, kept-before, depth_is}

module _ (d : List ℕ) (at : ℕ) (b : List ℕ) (in-d : at + length b ≤ length d) where
  pub take-under : take at (paste d at b (length b)) ≡ take at d
  take-under =
      let e : length (take at d) ≡ at = length-take-le at d (omega arith) in
      ap (take at) (append_assoc (take at d) (take (length b) b) (drop (at + length b) d)) ∙ take-append-le at (take at d) (take (length b) b ++ drop (at + length b) d) (omega arith) ∙ take_all at (take at d) (omega arith)

  pub between-over : (a : ℕ) → a ≤ at → between a (at + length b) (paste d at b (length b)) ≡ between a at d ++ b
  between-over a le =
      let e : length (take at d) ≡ at = length-take-le at d (omega arith) in
      between_is (paste d at b (length b)) a (at + length b)
      ∙ ap (drop a) (take-paste d at b (length b) (omega arith) (omega arith))
      ∙ drop-append-le a (take at d) (take (length b) b) (omega arith)
      ∙ ap (λ l. drop a (take at d) ++ l) (take_all (length b) b (omega arith))
      ∙ ap (λ l. l ++ b) (sym (between_is d a at))

abbrev pub longer : Counts → ℕ → Counts
longer c n = record { head = c.head + n; tail = c.tail; lhead = c.lhead; ltail = c.ltail; objects = c.objects; depth = c.depth }

module _ (b w w' : List ℕ) (s : Serializer) (c : Counts) (is : w' ≡ paste w c.head b (length b)) (sound : Sound w s c) (room : length b ≤ c.tail - c.head) where
  in-w : c.head + length b ≤ length w
  in-w = omega (arith, sound.base.heads, sound.base.tails)

  same_length : length w' ≡ length w
  same_length = ap length is ∙ length-paste w c.head b (length b) in-w (omega arith)

  kept : Kept c w s w' s
  kept = record {
    length_work = same_length;
    head = ap (take c.head) is ∙ take-under w c.head b in-w;
    tail = drop-same w w' (c.head + length b) c.tail (omega (arith, sound.base.heads)) (ap (drop (c.head + length b)) is ∙ drop-paste w c.head b (length b) (omega (arith, in-w)) (omega arith));
    link_head = refl;
    link_tail = refl;
    entries = refl;
    frames = refl;
  }

  base : Base w' s (longer c (length b))
  base = let k = base_kept w w' s s same_length c sound.base kept in record {
    heads = omega (arith, sound.base.heads);
    tails = k.tails;
    link_heads = k.link_heads;
    link_tails = k.link_tails;
    few = k.few;
    chain = k.chain;
    linked = k.linked;
    once = k.once;
  }

  opened : (f : Counts) → Opened w s f c → Opened w' s f (longer c (length b))
  opened f o = record {
    heads = omega (arith, o.heads);
    tails = o.tails;
    link_heads = o.link_heads;
    link_tails = o.link_tails;
    more = o.more;
    fields = fields-more 0 (between f.lhead c.lhead s.links) (c.head - f.head) c.objects (c.head + length b - f.head) c.objects o.fields (omega arith) (omega arith);
  }

  top : (f : Counts) → f.head ≤ c.head → open_at w' s f (longer c (length b)) ≡ grown b (open_at w s f c)
  top f le = object-same _ _ _ _ (ap (between f.head (c.head + length b)) is ∙ between-over w c.head b in-w f.head le) refl

  stacked : (d : ℕ) → Stacked w s d c → Stacked w' s d (longer c (length b)) × (stack_of w' s d (longer c (length b)) ≡ on_top (grown b) (stack_of w s d c))
  stacked zero e = (e, refl)
  stacked (suc d) (e, o, q, r) =
      let k = stacked-kept w w' s s same_length (suc d) c (e, o, q, r) kept in
      let f = start_at s d in
      let kf : Kept f w s w' s = kept-before w w' s s same_length f c o (omega (arith, depth_is w w' s s same_length d f r)) kept in
      let more = stacked-kept w w' s s same_length d f r kf in
      ((e, opened f o, k.0.2, k.0.3), ap (λ (y : Object). y ∷ stack_of w' s d f) (top f o.heads) ∙ ap (λ (y : List Object). grown b (open_at w s f c) ∷ y) more.1)

  pub embeds : Embeds b w w' s c (longer c (length b))
  embeds =
      let k = stacked c.depth sound.stacked in
      let p = pool-kept w w' s s same_length c sound.base.chain kept in
      record {
        room = room;
        work = is;
        counts = refl;
        sound = record { shallow = sound.shallow; frames = sound.frames; entries = sound.entries; links = sound.links; base = base; stacked = k.0 };
        sink = sink-same _ _ _ _ _ _ _ _ p.1 k.1 (omega arith) refl;
        kept = kept;
      }

  pub embeds-to : (c' : Counts) → c' ≡ longer c (length b) → Embeds b w w' s c c'
  embeds-to c' e = subst (λ (d : Counts). Embeds b w w' s c d) (sym e) embeds
