-- Steps over a list in which some places are left out.
use Rattle.std.proofs.Common.{◌≡◌, ℕ, zero, suc, ◌+◌, ◌≤◌, Bool, true, false, cond, List, [], ◌∷◌, map, length, get_or, drop, Some, None, filter, Option, sym, refl, ap, ◌∙◌, add-one, arith}
use Rattle.std.proofs.lemmas.List.{drop_all}
use Rattle.std.specs.Bool.{then_some}
use Rattle.std.specs.List.{slice_get}
use Rattle.numbering.specs.Sets.{among, somes, place_by, if_among}

skips : (xs : List (Option ℕ)) (k : ℕ) → get_or xs k None ≡ None → somes (drop k xs) ≡ somes (drop (suc k) xs)
skips [] zero e = refl
skips [] (suc k) e = refl
skips (None ∷ xs) zero e = refl
skips (Some x ∷ xs) zero e = absurd (let z : ◌≡◌ {A = ℕ} 0 1 = cc in omega arith)
skips (x ∷ xs) (suc k) e = skips xs k e

takes : (xs : List (Option ℕ)) (k x : ℕ) → get_or xs k None ≡ Some x → somes (drop k xs) ≡ x ∷ somes (drop (suc k) xs)
takes [] k x e = absurd (let z : ◌≡◌ {A = ℕ} 0 1 = cc in omega arith)
takes (None ∷ xs) zero x e = absurd (let z : ◌≡◌ {A = ℕ} 0 1 = cc in omega arith)
takes (Some y ∷ xs) zero x e = cc
takes (y ∷ xs) (suc k) x e = takes xs k x e

pub left_out : (xs : List (Option ℕ)) (k : ℕ) → get_or xs k None ≡ None → somes (drop k xs) ≡ somes (drop (k + 1) xs)
left_out xs k e = rw add-one (skips xs k e)

pub given : (xs : List (Option ℕ)) (k x : ℕ) → get_or xs k None ≡ Some x → somes (drop k xs) ≡ x ∷ somes (drop (k + 1) xs)
given xs k x e = rw add-one (takes xs k x e)

pub none_left : (xs : List (Option ℕ)) (k : ℕ) → length xs ≤ k → somes (drop k xs) ≡ []
none_left xs k h = ap somes (drop_all k xs h)

pub ruleset turns = (left_out, given, none_left)

-- a list under a function that leaves some out
place_of : (f : ℕ → Option ℕ) (xs : List ℕ) (k : ℕ) → get_or (map f xs) k None ≡ place_by f (slice_get xs k)
place_of f [] k = refl
place_of f (x ∷ xs) zero = refl
place_of f (x ∷ xs) (suc k) = place_of f xs k

pub place-none : (f : ℕ → Option ℕ) (xs : List ℕ) (k : ℕ) → None ≡ slice_get xs k → None ≡ get_or (map f xs) k None
place-none f xs k e = ap (place_by f) e ∙ sym (place_of f xs k)

pub place-some : (f : ℕ → Option ℕ) (xs : List ℕ) (k x : ℕ) → Some x ≡ slice_get xs k → f x ≡ get_or (map f xs) k None
place-some f xs k x e = ap (place_by f) e ∙ sym (place_of f xs k)

pub kept_some : (ls : List ℕ) (x : ℕ) (b : Bool) (r : Option ℕ) → r ≡ then_some b x → b ≡ among ls x → r ≡ if_among ls x
kept_some ls x true r e h = e ∙ ap (λ b. cond b (Some x) None) h
kept_some ls x false r e h = e ∙ ap (λ b. cond b (Some x) None) h

somes-kept : (ls : List ℕ) (x : ℕ) (rest : List (Option ℕ)) (b : Bool) → somes (cond b (Some x) None ∷ rest) ≡ cond b (x ∷ somes rest) (somes rest)
somes-kept ls x rest true = refl
somes-kept ls x rest false = refl

pub somes-among : (ls xs : List ℕ) → somes (map (if_among ls) xs) ≡ filter (among ls) xs
somes-among ls [] = refl
somes-among ls (x ∷ xs) = somes-kept ls x (map (if_among ls) xs) (among ls x) ∙ ap (λ r. cond (among ls x) (x ∷ r) r) (somes-among ls xs)
