-- An object of bytes alone: opened, filled and packed, or taken back.
use Rattle.std.proofs.Common.{◌≡◌, ℕ, ◌+◌, ◌-◌, ◌<◌, List, [], ◌∷◌, length, drop, sym, refl, ap, ◌∙◌, subst, inl, inr, ⊎_elim, arith}
use Rattle.serialize.specs.declared.tables.Counts.{Counts}
use Rattle.serialize.specs.declared.tables.Serializer.{Serializer}
use Rattle.serialize.specs.declared.tokens.Token.{Token}
use Rattle.serialize.specs.declared.faults.Fault.{Fault}
use Rattle.serialize.specs.declared.faults.Fault.TheVariants.{Work}
use Rattle.serialize.specs.Objects.{Object, Stands, Absent}
use Rattle.serialize.specs.Tables.{Sink, start_at, sink_of, Sound, Kept}
use Rattle.serialize.specs.Calls.{Before, SameOpen, top, embedded, opened, Pushes, Embeds, Packs, Full, Discards, TakenBack, Copies, Shared, Uncopied}
use Rattle.serialize.proofs.Marking.{kept_trans, kept-earlier, sound-kept}

module _ (w : List ℕ) (s s₁ : Serializer) (c c₁ : Counts) (t : Token) (sound : Sound w s c) (p : Pushes w s s₁ c c₁ t) where
  -- the counts at the opening
  pub start_is : (d : ℕ) → d ≡ c.depth + 1 → start_at s₁ (d - 1) ≡ c
  start_is d e = let z : d - 1 ≡ c.depth = omega arith in ap (start_at s₁) z ∙ p.start

  depth₁ : c₁.depth ≡ c.depth + 1
  depth₁ = ap (λ (x : Counts). x.depth) p.counts

  -- the packed objects and the room are as before the opening
  pub copy-short : (b : List ℕ) (f : Fault) → f ≡ Work → c₁.tail - c₁.head < length b → Uncopied b w s c f
  copy-short b f e lt =
      let h : c₁.head ≡ c.head = ap (λ (x : Counts). x.head) p.counts in
      let t : c₁.tail ≡ c.tail = ap (λ (x : Counts). x.tail) p.counts in
      inl (e, omega arith)

  -- nothing was written
  pub copy-dropped : (c' : Counts) → Discards w s₁ c₁ c' → TakenBack w w s s₁ c c'
  copy-dropped c' d =
      let is : c' ≡ c = d.counts ∙ start_is c₁.depth depth₁ in
      let k = sound-kept c c₁ w w s s₁ sound p.sound p.kept in
      subst (λ (x : Counts). TakenBack w w s s₁ c x) (sym is) (record { counts = refl; sound = k.0; sink = k.1; kept = p.kept })

  module _ (b w₁ : List ℕ) (c₂ : Counts) (e : Embeds b w w₁ s₁ c₁ c₂) where
    depth₂ : c₂.depth ≡ c.depth + 1
    depth₂ = ap (λ (x : Counts). x.depth) e.counts ∙ depth₁

    first : Kept c w s w₁ s₁
    first =
        let before : Before c c₁ = subst (λ (x : Counts). Before c x) (sym p.counts) (record { heads = omega arith; tails = omega arith; link_heads = omega arith; link_tails = omega arith; more = omega arith; depths = omega arith }) in
        kept_trans c w w w₁ s s₁ s₁ p.kept (kept-earlier c c₁ w w₁ s₁ s₁ before e.kept)

    -- the sink before the packing
    full-sink : sink_of w₁ s₁ c₂ ≡ embedded b (opened (sink_of w s c))
    full-sink = e.sink ∙ ap (embedded b) p.sink

    top-full : top (sink_of w₁ s₁ c₂) ≡ record { bytes = b; links = [] }
    top-full = ap top full-sink

    pool-full : (sink_of w₁ s₁ c₂).pool ≡ (sink_of w s c).pool
    pool-full = ap (λ (y : Sink). y.pool) full-sink

    absent : Absent (top (sink_of w₁ s₁ c₂)) (sink_of w₁ s₁ c₂).pool → Absent (record { bytes = b; links = [] }) (sink_of w s c).pool
    absent n = subst (λ (y : List Object). Absent (record { bytes = b; links = [] }) y) pool-full (subst (λ (y : Object). Absent y (sink_of w₁ s₁ c₂).pool) top-full n)

    pub copy-full : (w₂ : List ℕ) (s₂ : Serializer) (c' : Counts) (f : Fault) → Full w₁ w₂ s₁ s₂ c₂ c' f → TakenBack w w₂ s s₂ c c' × Uncopied b w s c f
    copy-full w₂ s₂ c' f h =
        let is : c' ≡ c = h.gone.counts ∙ start_is c₂.depth depth₂ in
        let k = sound-kept c c₂ w w₁ s s₁ sound e.sound first in
        let back : TakenBack w w₁ s s₁ c c = record { counts = refl; sound = k.0; sink = k.1; kept = first } in
        (subst (λ (x : Counts). TakenBack w w₂ s s₂ c x) (sym is) (subst (λ (y : List ℕ). TakenBack w y s s₂ c c) (sym h.work) (subst (λ (z : Serializer). TakenBack w w₁ s z c c) (sym h.tables) back)), inr (h.fault, inr (sym (ap length pool-full) ∙ h.full, absent h.new)))

    pub copy-packed : (w₂ : List ℕ) (s₂ : Serializer) (c' : Counts) (k : ℕ) → Packs w₁ w₂ s₁ s₂ c₂ c' k → Copies b w w₂ s s₂ c c' k × Shared (record { bytes = b; links = [] }) (sink_of w s c).pool (sink_of w₂ s₂ c').pool k
    copy-packed w₂ s₂ c' k h =
        let x : Object = record { bytes = b; links = [] } in
        let tx = top-full in
        let st : (sink_of w₁ s₁ c₂).stack ≡ x ∷ (sink_of w s c).stack = ap (λ (y : Sink). y.stack) full-sink in
        let pl = pool-full in
        let rest : drop 1 (sink_of w₁ s₁ c₂).stack ≡ (sink_of w s c).stack = ap (drop 1) st in
        let kc : Kept c w₁ s₁ w₂ s₂ = subst (λ (y : Counts). Kept y w₁ s₁ w₂ s₂) (start_is c₂.depth depth₂) h.kept in
        let shared : Shared x (sink_of w s c).pool (sink_of w₂ s₂ c').pool k =
        ⊎_elim
        (λ q. inl (subst (λ (y : List Object). Stands x y k) pl (subst (λ (y : Object). Stands y (sink_of w₁ s₁ c₂).pool k) tx q.0), ap (λ (y : Sink). y.pool) q.1 ∙ pl))
        (λ q. inr (absent q.0, q.1 ∙ ap length pl, ap (λ (y : Sink). y.pool) q.2 ∙ ap (λ (y : Object). y ∷ (sink_of w₁ s₁ c₂).pool) tx ∙ ap (λ (y : List Object). x ∷ y) pl))
        h.sink in (
          record {
            sound = h.sound;
            stands = subst (λ (y : Object). Stands y (sink_of w₂ s₂ c').pool k) tx h.stands;
            stack = ⊎_elim (λ q. ap (λ (y : Sink). y.stack) q.1 ∙ rest) (λ q. ap (λ (y : Sink). y.stack) q.2 ∙ rest) h.sink;
            pool = ⊎_elim (λ q. inl q.1) (λ q. inr q.2) shared;
            before = subst (λ (y : Counts). Before y c') (start_is c₂.depth depth₂) h.before;
            same = subst (λ (y : Counts). SameOpen y c') (start_is c₂.depth depth₂) h.same;
            kept = kept_trans c w w₁ w₂ s s₁ s₂ first kc;
          },
          shared,
        )
