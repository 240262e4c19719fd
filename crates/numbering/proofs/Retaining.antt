-- Lists of which some numbers are left out.
--   Part ys xs   ys has some of the numbers of xs, in their order
use Rattle.std.proofs.Common.{◌≡◌, ℕ, zero, suc, ◌<◌, ◌≤◌, Bool, true, false, cond, ◌&&◌, ◌||◌, eqb, List, [], ◌∷◌, map, length, get_or, filter, sym, refl, ap, ◌∙◌, ⊎_elim, arith}
use Rattle.std.proofs.ByRecursion.{All-get_or}
use Rattle.std.proofs.lemmas.Bool.{and_from, and_left, and_right, cases_Bool, eqb-true, or_left}
use Rattle.std.specs.List.{AllByRecursion as All}
use Rattle.source.specs.declared.parts.FeaturePlace.TheVariants.{Listed}
use Rattle.source.specs.declared.parts.Standing.{Standing}
use Rattle.source.specs.declared.parts.Standing.TheVariants.{Absent, Unreadable, There}
use Rattle.source.specs.Questions.{feature}
use Rattle.source.specs.Reading.{Reading}
use Rattle.numbering.specs.Context.{chosen}
use Rattle.numbering.specs.Sets.{Ascends, among}
use Rattle.numbering.specs.Stages.{judged, surviving, survivors, front, matched}
use Rattle.numbering.proofs.Ranks.{Up, up_from}

data Part : List ℕ → List ℕ → Type 0 where
  none : {xs : List ℕ} → Part [] xs
  skip : {x : ℕ} {ys xs : List ℕ} → Part ys xs → Part ys (x ∷ xs)
  keep : {x : ℕ} {ys xs : List ℕ} → Part ys xs → Part (x ∷ ys) (x ∷ xs)

part-all : (P : ℕ → Type 0) {ys xs : List ℕ} → Part ys xs → All P xs → All P ys
part-all P none a = tt
part-all P (skip p) a = part-all P p a.1
part-all P (keep p) a = (a.0, part-all P p a.1)

part_up : {ys xs : List ℕ} → Part ys xs → Up xs → Up ys
part_up none u = tt
part_up (skip p) u = part_up p u.1
part_up (keep {x} p) u = (part-all (λ y. x < y) p u.0, part_up p u.1)

part-few : {ys xs : List ℕ} → Part ys xs → length ys ≤ length xs
part-few none = omega arith
part-few (skip p) = omega (arith, part-few p)
part-few (keep p) = omega (arith, part-few p)

up_to : (xs : List ℕ) → Up xs → Ascends xs
up_to [] u i j d h l = absurd (omega arith)
up_to (x ∷ xs) u zero zero d h l = absurd (omega arith)
up_to (x ∷ xs) u zero (suc j) d h l = All-get_or (λ y. x < y) xs j d (omega arith) u.0
up_to (x ∷ xs) u (suc i) zero d h l = absurd (omega arith)
up_to (x ∷ xs) u (suc i) (suc j) d h l = up_to xs u.1 i j d (omega arith) (omega arith)

part_ascends : (ys xs : List ℕ) → Part ys xs → Ascends xs → Ascends ys
part_ascends ys xs p a = up_to ys (part_up p (up_from xs a))

-- what passes a test

kept-one : (b : Bool) (x : ℕ) (ys xs : List ℕ) → Part ys xs → Part (cond b (x ∷ ys) ys) (x ∷ xs)
kept-one true x ys xs p = keep p
kept-one false x ys xs p = skip p

module _ (p : ℕ → Bool) where
  kept-part : (xs : List ℕ) → Part (filter p xs) xs
  kept-part [] = none
  kept-part (x ∷ xs) = kept-one (p x) x (filter p xs) xs (kept-part xs)

  pub kept-ascends : (xs : List ℕ) → Ascends xs → Ascends (filter p xs)
  kept-ascends xs a = part_ascends (filter p xs) xs (kept-part xs) a

  among-here : (b : Bool) (y : ℕ) (ks ys : List ℕ) (x : ℕ) → eqb y x ≡ true → p x ≡ b → among ks x ≡ (p x && among ys x) → among (cond b (y ∷ ks) ks) x ≡ (p x && among (y ∷ ys) x)
  among-here true y ks ys x e t h = or_left (eqb y x) (among ks x) e ∙ sym (and_from (p x) (among (y ∷ ys) x) t (or_left (eqb y x) (among ys x) e))
  among-here false y ks ys x e t h = h ∙ (and_left (p x) (among ys x) t ∙ sym (and_left (p x) (among (y ∷ ys) x) t))

  among_later : (b : Bool) (y : ℕ) (ks ys : List ℕ) (x : ℕ) → eqb y x ≡ false → among ks x ≡ (p x && among ys x) → among (cond b (y ∷ ks) ks) x ≡ (p x && among (y ∷ ys) x)
  among_later true y ks ys x e h = ap (λ t. t || among ks x) e ∙ (h ∙ sym (ap (λ t. p x && (t || among ys x)) e))
  among_later false y ks ys x e h = h ∙ sym (ap (λ t. p x && (t || among ys x)) e)

  pub among-kept : (xs : List ℕ) (x : ℕ) → among (filter p xs) x ≡ (p x && among xs x)
  among-kept [] x = sym (and_right (p x) false refl)
  among-kept (y ∷ ys) x =
      let onward = among-kept ys x in
      ⊎_elim (λ e. among-here (p y) y (filter p ys) ys x e (sym (ap p (eqb-true y x e))) onward) (λ e. among_later (p y) y (filter p ys) ys x e onward) (cases_Bool (eqb y x))

-- what has a flag

pub chosen-kept : (bs : List Bool) (q : ℕ → Bool) (ms : List ℕ) → length ms ≤ length bs → ((p : ℕ) → p < length ms → get_or bs p false ≡ q (get_or ms p 0)) → chosen bs ms ≡ filter q ms
chosen-kept [] q [] h e = refl
chosen-kept [] q (m ∷ ms) h e = absurd (omega arith)
chosen-kept (b ∷ bs) q [] h e = refl
chosen-kept (b ∷ bs) q (m ∷ ms) h e =
    ap (λ t. cond t (m ∷ chosen bs ms) (chosen bs ms)) (e 0 (omega arith))
    ∙ ap (λ l. cond (q m) (m ∷ l) l) (chosen-kept bs q ms (omega arith) (λ p l. e (suc p) (omega arith)))

pub chosen-map : (bs : List Bool) (f : ℕ → ℕ) (ms : List ℕ) → chosen bs (map f ms) ≡ map f (chosen bs ms)
chosen-map [] f ms = refl
chosen-map (b ∷ bs) f [] = refl
chosen-map (true ∷ bs) f (m ∷ ms) = ap (λ l. f m ∷ l) (chosen-map bs f ms)
chosen-map (false ∷ bs) f (m ∷ ms) = chosen-map bs f ms

-- survivors and matches

surviving-part : (i : ℕ) (s : Standing Bool) (ys xs : List ℕ) → Part ys xs → Part (surviving i s ys) (i ∷ xs)
surviving-part i Absent ys xs p = none
surviving-part i Unreadable ys xs p = none
surviving-part i (There b) ys xs p = kept-one b i ys xs p

front-part : {X : Type 0} (s : Standing X) (i : ℕ) (ys xs : List ℕ) → Part ys xs → Part (front s i ys) (i ∷ xs)
front-part Absent i ys xs p = none
front-part Unreadable i ys xs p = none
front-part (There t) i ys xs p = keep p

module _ (r : Reading) where
  survivors-part : (ls fs : List ℕ) → Part (survivors r ls fs) fs
  survivors-part ls [] = none
  survivors-part ls (i ∷ is) = surviving-part i (judged r ls i) (survivors r ls is) is (survivors-part ls is)

  matched-part : (vs : List ℕ) → Part (matched r vs) vs
  matched-part [] = none
  matched-part (i ∷ is) = front-part (feature r (Listed i)) i (matched r is) is (matched-part is)

  pub survivors-ascend : (ls fs : List ℕ) → Ascends fs → Ascends (survivors r ls fs)
  survivors-ascend ls fs a = part_ascends (survivors r ls fs) fs (survivors-part ls fs) a

  pub matched-ascends : (vs : List ℕ) → Ascends vs → Ascends (matched r vs)
  matched-ascends vs a = part_ascends (matched r vs) vs (matched-part vs) a

  pub few-survivors : (ls fs : List ℕ) → length (survivors r ls fs) ≤ length fs
  few-survivors ls fs = part-few (survivors-part ls fs)

  pub few-matched : (vs : List ℕ) → length (matched r vs) ≤ length vs
  few-matched vs = part-few (matched-part vs)
