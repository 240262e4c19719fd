-- Steps one after another.
use Rattle.std.proofs.Common.{◌≡◌, ℕ, ◌+◌, ◌-◌, List, Ok, Err, Result, sym, refl, ap, ◌∙◌, subst, arith}
use Rattle.serialize.specs.declared.faults.Fault.{Fault}
use Rattle.serialize.specs.declared.tables.Width.{Width}
use Rattle.serialize.specs.declared.tables.Counts.{Counts}
use Rattle.serialize.specs.declared.tables.Serializer.{Serializer}
use Rattle.serialize.specs.declared.tokens.Token.{Token}
use Rattle.serialize.specs.Tables.{start_at, Sound, Kept}
use Rattle.serialize.specs.Calls.{Before, SameOpen, Pushes, Discards, Embeds, Offsets, Packs, Full, TakenBack, Copied}
use Rattle.serialize.proofs.Keeps.{start-kept}
use Rattle.serialize.proofs.Marking.{kept_refl, kept_trans, kept-earlier, sound-kept}
use Rattle.sink.specs.Steps.{Grown, Rooted}

before_same : (a b : Counts) → b ≡ a → Before a b
before_same a b e = subst (λ (x : Counts). Before a x) (sym e) (record { heads = omega arith; tails = omega arith; link_heads = omega arith; link_tails = omega arith; more = omega arith; depths = omega arith })

pub grown-refl : (w : List ℕ) (s : Serializer) (c : Counts) → Sound w s c → Grown w w s s c c
grown-refl w s c sound = record { sound = sound; before = before_same c c refl; depth = refl; kept = kept_refl c w s }

pub grown-same : (w w' : List ℕ) (s : Serializer) (c c' : Counts) → Sound w s c → w' ≡ w → c' ≡ c → Grown w w' s s c c'
grown-same w w' s c c' sound e f =
    subst (λ (y : List ℕ). Grown w y s s c c') (sym e) (subst (λ (x : Counts). Grown w w s s c x) (sym f) (grown-refl w s c sound))

pub copied-kept : (b w w' : List ℕ) (s s' : Serializer) (c c' : Counts) (r : Result ℕ Fault) → Copied b w w' s s' c c' r → Sound w' s' c' × (c'.depth ≡ c.depth) × Kept c w s w' s'
copied-kept b w w' s s' c c' (Ok k) h = (h.sound, h.same.2, h.kept)
copied-kept b w w' s s' c c' (Err f) h = (h.sound, ap (λ (x : Counts). x.depth) h.counts, h.kept)

pub grown-trans : (w w₁ w₂ : List ℕ) (s s₁ s₂ : Serializer) (c c₁ c₂ : Counts) → Grown w w₁ s s₁ c c₁ → Grown w₁ w₂ s₁ s₂ c₁ c₂ → Grown w w₂ s s₂ c c₂
grown-trans w w₁ w₂ s s₁ s₂ c c₁ c₂ a b =
    let p = a.before in
    let q = b.before in
    record {
      sound = b.sound;
      before = record { heads = omega (arith, p.heads, q.heads); tails = omega (arith, p.tails, q.tails); link_heads = omega (arith, p.link_heads, q.link_heads); link_tails = omega (arith, p.link_tails, q.link_tails); more = omega (arith, p.more, q.more); depths = omega (arith, p.depths, q.depths) };
      depth = b.depth ∙ a.depth;
      kept = kept_trans c w w₁ w₂ s s₁ s₂ a.kept (kept-earlier c c₁ w₁ w₂ s₁ s₂ p b.kept);
    }

pub grown-embeds : (b w w' : List ℕ) (s : Serializer) (c c' : Counts) → Embeds b w w' s c c' → Grown w w' s s c c'
grown-embeds b w w' s c c' e = record {
  sound = e.sound;
  before = subst (λ (x : Counts). Before c x) (sym e.counts) (record { heads = omega arith; tails = omega arith; link_heads = omega arith; link_tails = omega arith; more = omega arith; depths = omega arith });
  depth = ap (λ (x : Counts). x.depth) e.counts;
  kept = e.kept;
}

pub grown-offsets : (v : Width) (t : ℕ) (w w' : List ℕ) (s s' : Serializer) (c c' : Counts) → Offsets v t w w' s s' c c' → Grown w w' s s' c c'
grown-offsets v t w w' s s' c c' e = record {
  sound = e.sound;
  before = subst (λ (x : Counts). Before c x) (sym e.counts) (record { heads = omega arith; tails = omega arith; link_heads = omega arith; link_tails = omega arith; more = omega arith; depths = omega arith });
  depth = ap (λ (x : Counts). x.depth) e.counts;
  kept = e.kept;
}

pub grown-back : (w w' : List ℕ) (s s' : Serializer) (c c' : Counts) → TakenBack w w' s s' c c' → Grown w w' s s' c c'
grown-back w w' s s' c c' b = record { sound = b.sound; before = before_same c c' b.counts; depth = ap (λ (x : Counts). x.depth) b.counts; kept = b.kept }

-- counts put back after steps
pub back_from : (w w' : List ℕ) (s s' : Serializer) (c c₁ c' : Counts) → Sound w s c → Grown w w' s s' c c₁ → c' ≡ c → TakenBack w w' s s' c c'
back_from w w' s s' c c₁ c' sound g e =
    let z = sound-kept c c₁ w w' s s' sound g.sound g.kept in
    subst (λ (x : Counts). TakenBack w w' s s' c x) (sym e) (record { counts = refl; sound = z.0; sink = z.1; kept = g.kept })

-- an object opened, and something done since
module _ (w w' : List ℕ) (s s₁ s₂ : Serializer) (c c₁ c₂ : Counts) (t : Token) (sound : Sound w s c) (p : Pushes w s s₁ c c₁ t) (more : Sound w' s₂ c₂) (depth : c₂.depth ≡ c₁.depth) (k : Kept c₁ w s₁ w' s₂) where
  deep : c₁.depth ≡ c.depth + 1
  deep = ap (λ (x : Counts). x.depth) p.counts

  pub level-is : t.level ≡ c₂.depth
  level-is = p.level ∙ sym depth

  pub opening : start_at s₂ (c₂.depth - 1) ≡ c
  opening =
      let z : c₂.depth - 1 ≡ c.depth = omega (arith, depth, deep) in
      ap (start_at s₂) z ∙ start-kept w w' s₁ s₂ k.length_work c₁ c.depth (omega (arith, deep)) k ∙ p.start

  pub since : Kept c w s w' s₂
  since = kept_trans c w w w' s s₁ s₂ p.kept (kept-earlier c c₁ w w' s₁ s₂ (subst (λ (x : Counts). Before c x) (sym p.counts) (record { heads = omega arith; tails = omega arith; link_heads = omega arith; link_tails = omega arith; more = omega arith; depths = omega arith })) k)

  pub dropped : (c' : Counts) → Discards w' s₂ c₂ c' → TakenBack w w' s s₂ c c'
  dropped c' d =
      let e : c' ≡ c = d.counts ∙ opening in
      let z = sound-kept c c₂ w w' s s₂ sound more since in
      subst (λ (x : Counts). TakenBack w w' s s₂ c x) (sym e) (record { counts = refl; sound = z.0; sink = z.1; kept = since })

  pub rooted : (w₂ : List ℕ) (s₃ : Serializer) (c' : Counts) (n : ℕ) → Packs w' w₂ s₂ s₃ c₂ c' n → Rooted w w₂ s s₃ c c'
  rooted w₂ s₃ c' n h = record {
    sound = h.sound;
    same = subst (λ (x : Counts). SameOpen x c') opening h.same;
    kept = kept_trans c w w' w₂ s s₂ s₃ since (subst (λ (x : Counts). Kept x w' s₂ w₂ s₃) opening h.kept);
  }

  pub full_back : (w₂ : List ℕ) (s₃ : Serializer) (c' : Counts) (f : Fault) → Full w' w₂ s₂ s₃ c₂ c' f → TakenBack w w₂ s s₃ c c'
  full_back w₂ s₃ c' f h =
      subst (λ (y : List ℕ). TakenBack w y s s₃ c c') (sym h.work) (subst (λ (y : Serializer). TakenBack w w' s y c c') (sym h.tables) (dropped c' h.gone))
