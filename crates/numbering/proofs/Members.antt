-- Facts on tests over lists.
use Rattle.std.proofs.Common.{◌≡◌, ℕ, zero, suc, ◌+◌, ◌<◌, Bool, true, false, ◌||◌, eqb, List, [], ◌∷◌, map, length, get_or, Some, None, Decides, Option, sym, refl, ap, ◌∙◌, ⊎_elim, arith}
use Rattle.std.specs.declared.ops.Range.{Range}
use Rattle.std.specs.Fn.{Called}
use Rattle.std.specs.Iterator.{YieldsThen}
use Rattle.std.specs.List.{FoldsTo, list_any, range_with_len, slice_get}
use Rattle.std.specs.Option.{MatchOption, option_eq}
use Rattle.std.proofs.lemmas.List.{get_or_default}
use Rattle.std.proofs.iter.Yields.{nat_range_steps}
use Rattle.std.proofs.lemmas.Iterator.{YieldsList-from_range}
use Rattle.std.proofs.lemmas.Iterator.Search.{any_from_yields_List}
use denote.Param.Members.{Mut}
use Rattle.std.proofs.lemmas.Bool.{both_ways, eqb-true, eq-eqb, or_cases, or_left, or_right, and_left, and_right}
use Rattle.keys.specs.Slots.{Held}
use Rattle.source.specs.declared.parts.Standing.{Standing}
use Rattle.source.specs.declared.parts.Standing.TheVariants.{Absent, Unreadable, There}
use Rattle.source.specs.declared.parts.Substitution.{Substitution}
use Rattle.source.specs.Standings.{mapped, counted}
use Rattle.source.specs.Reading.{FeatureTable, SubstitutionRecord, SubstitutionTable}
use Rattle.source.specs.Questions.{lookups_of, index_of, no_substitution, substitution_records, substitution_head}
use Rattle.numbering.specs.Stages.{is_unreadable, names_alternate}
use Rattle.numbering.specs.Sets.{among, any, passes}

pub there-same : {X : Type 0} {x y : X} → There x ≡ There y → x ≡ y
there-same e = cc

pub none-some : {j : ℕ} → ◌≡◌ {A = Option ℕ} None (Some j) → ⊥
none-some e = let z : ◌≡◌ {A = ℕ} 0 1 = cc in omega arith

among-from : (xs : List ℕ) (x i : ℕ) → i < length xs → ((d : ℕ) → get_or xs i d ≡ x) → among xs x ≡ true
among-from [] x i h e = absurd (omega arith)
among-from (y ∷ ys) x zero h e = or_left (eqb y x) (among ys x) (eq-eqb y x (e 0))
among-from (y ∷ ys) x (suc i) h e = or_right (eqb y x) (among ys x) (among-from ys x i (omega arith) e)

held-from : (xs : List ℕ) (x : ℕ) → among xs x ≡ true → Held (λ (a b : ℕ). a ≡ b) xs x
held-from [] x e = absurd (both_ways false refl e)
held-from (y ∷ ys) x e =
    ⊎_elim (λ h. (0, (omega arith, λ d. eqb-true y x h)))
    (λ h. let r = held-from ys x h in (suc r.0, (omega (arith, r.1.0), λ d. r.1.1 d)))
    (or_cases (eqb y x) (among ys x) e)

pub among-decides : (xs : List ℕ) (x : ℕ) → Decides (among xs x) (Held (λ (a b : ℕ). a ≡ b) xs x)
among-decides xs x = (held-from xs x, λ h. among-from xs x h.0 h.1.0 h.1.1)

-- `any` over the places of a list, where the closure tests the element at a place
module _ {X : Type 0} (p : X → Bool) where
  any-counted : (xs : List X) (q : ℕ → Bool) (a n : ℕ) → n ≡ length xs → ((k : ℕ) (d : X) → k < length xs → q (a + k) ≡ p (get_or xs k d)) → list_any q (range_with_len a n) ≡ any p xs
  any-counted [] q a zero e h = refl
  any-counted [] q a (suc n) e h = absurd (omega arith)
  any-counted (x ∷ xs) q a zero e h = absurd (omega arith)
  any-counted (x ∷ xs) q a (suc n) e h =
      let first : a + 0 ≡ a = omega arith in
      ap (λ b. b || list_any q (range_with_len (a + 1) n)) (sym (ap q first) ∙ h 0 x (omega arith))
      ∙ ap (λ b. p x || b) (any-counted xs q (a + 1) n (omega arith) (λ k d l. let next : a + 1 + k ≡ a + suc k = omega arith in ap q next ∙ h (suc k) d (omega arith)))

  pub any_over : {F : Type 0} {g : Mut F (ℕ × Unit {0}) Bool} {s : Range ℕ} (xs : List X) (q : ℕ → Bool) (n : ℕ) (u : Range ℕ) (f : F) (r : Bool) → s ≡ record { start = 0; end = n } → n ≡ length xs → ((k : ℕ) (d : X) → k < length xs → q k ≡ p (get_or xs k d))
      → (ys : List ℕ) × (o : Option ℕ) × (j : F) × YieldsThen nat_range_steps s ys o u × FoldsTo (λ h x i. Called g h (x, tt) false i) f ys j × MatchOption o (r ≡ false) (λ x. (r ≡ true) × ((h : F) × Called g j (x, tt) true h))
      → ((x : ℕ) (b : Bool) (i : F) → Called g f (x, tt) b i → (i ≡ f) × (b ≡ q x)) → r ≡ any p xs
  any_over xs q n u f r e size h ran told =
      any_from_yields_List q u f r ran (YieldsList-from_range 0 n n e (omega arith)) told
      ∙ any-counted xs q 0 n size (λ k d l. let here : 0 + k ≡ k = omega arith in ap q here ∙ h k d l)

  -- the same, where places past the end have an element too
  pub any_by : {F : Type 0} {g : Mut F (ℕ × Unit {0}) Bool} {s : Range ℕ} (xs : List X) (e : X) (n : ℕ) (u : Range ℕ) (f : F) (r : Bool) → s ≡ record { start = 0; end = n } → n ≡ length xs
      → (ys : List ℕ) × (o : Option ℕ) × (j : F) × YieldsThen nat_range_steps s ys o u × FoldsTo (λ h x i. Called g h (x, tt) false i) f ys j × MatchOption o (r ≡ false) (λ x. (r ≡ true) × ((h : F) × Called g j (x, tt) true h))
      → ((x : ℕ) (b : Bool) (i : F) → Called g f (x, tt) b i → (i ≡ f) × (b ≡ p (get_or xs x e))) → r ≡ any p xs
  any_by xs e n u f r at size ran told = any_over xs (λ k. p (get_or xs k e)) n u f r at size (λ k d l. ap p (get_or_default xs k e d l)) ran told

pub passes-at : {X : Type 0} (p : X → Bool) (xs : List X) (k : ℕ) (d : X) → k < length xs → passes p (slice_get xs k) ≡ p (get_or xs k d)
passes-at p [] k d h = absurd (omega arith)
passes-at p (x ∷ xs) zero d h = refl
passes-at p (x ∷ xs) (suc k) d h = passes-at p xs k d (omega arith)

-- how many lookups a feature has, as a source tells
pub lookup-count : (s : Standing FeatureTable) → counted (mapped (λ t. length t.lookups) s) ≡ length (lookups_of s)
lookup-count Absent = refl
lookup-count Unreadable = refl
lookup-count (There t) = refl

pub unreadable-mapped : {X Y : Type 0} (f : X → Y) (s : Standing X) → is_unreadable (mapped f s) ≡ is_unreadable s
unreadable-mapped f Absent = refl
unreadable-mapped f Unreadable = refl
unreadable-mapped f (There x) = refl

-- what a source tells of a substitution table that is there
pub substitution-there : (s : Standing SubstitutionTable) (h : Substitution) → There h ≡ mapped substitution_head s → (is_unreadable s ≡ false) × (h.count ≡ length (substitution_records s))
substitution-there Absent h e = absurd (let z : ◌≡◌ {A = ℕ} 0 1 = cc in omega arith)
substitution-there Unreadable h e = absurd (let z : ◌≡◌ {A = ℕ} 0 1 = cc in omega arith)
substitution-there (There t) h e = (refl, ap (λ x. x.count) (there-same e))

pub unread-or : (a b : Bool) → a ≡ false → b ≡ (a || b)
unread-or a b e = sym (ap (λ t. t || b) e)

-- what a source tells of a substitution record, as a record
pub index-found : (xs : List SubstitutionRecord) (k j : ℕ) → slice_get (map index_of xs) k ≡ Some j → (get_or xs k no_substitution).index ≡ j
index-found [] k j e = absurd (none-some e)
index-found (x ∷ xs) zero j e = cc
index-found (x ∷ xs) (suc k) j e = index-found xs k j e

pub index-none : (xs : List SubstitutionRecord) (k : ℕ) → slice_get (map index_of xs) k ≡ None → get_or xs k no_substitution ≡ no_substitution
index-none [] k e = refl
index-none (x ∷ xs) zero e = absurd (none-some (sym e))
index-none (x ∷ xs) (suc k) e = index-none xs k e

-- a record that names another feature, or is none
pub other-feature : (ls : List ℕ) (i : ℕ) (xs : List SubstitutionRecord) (k : ℕ) (o : Option ℕ) (r : Bool) → o ≡ slice_get (map index_of xs) k → r ≡ option_eq eqb o (Some i) → r ≡ false → r ≡ names_alternate ls i (get_or xs k no_substitution)
other-feature ls i xs k None r e h n =
    n ∙ sym (and_right (eqb (get_or xs k no_substitution).index i) (any (among ls) (lookups_of (get_or xs k no_substitution).alternate)) (ap (λ x. any (among ls) (lookups_of x.alternate)) (index-none xs k (sym e))))
other-feature ls i xs k (Some j) r e h n =
    n ∙ sym (and_left (eqb (get_or xs k no_substitution).index i) (any (among ls) (lookups_of (get_or xs k no_substitution).alternate)) (ap (λ x. eqb x i) (index-found xs k j (sym e)) ∙ (sym h ∙ n)))

-- what a source tells of tables that are there
