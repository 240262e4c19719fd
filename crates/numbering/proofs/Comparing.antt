-- Two iterators that are compared by `eq`, and a list of places in which some are left out.
use Rattle.std.proofs.Common.{◌≡◌, ℕ, zero, suc, ◌+◌, ◌<◌, Bool, true, false, ◌&&◌, eqb, List, [], ◌∷◌, length, get_or, Some, None, Option, sym, refl, ap, ◌∙◌, subst, arith}
use Rattle.std.proofs.lemmas.Bool.{and_left}
use Rattle.std.proofs.lemmas.Iterator.{YieldsList}
use Rattle.std.specs.Iterator.{AlwaysYields, YieldsThen}
use Rattle.std.specs.List.{AllZip, cons_option, filter_map, range_with_len}
use Rattle.std.specs.Option.{MatchOption, IfSome}
use Rattle.numbering.specs.Sets.{somes, equal_lists}

module _ {S T : Type 0} (steps : S → Option ℕ → S → Type 0) (others : T → Option ℕ → T → Type 0) (r : Bool) where
  abbrev pub Last : Option ℕ → Option ℕ → Type 0
  Last o p = MatchOption o (MatchOption p (r ≡ true) (λ _. r ≡ false)) (λ x. (r ≡ false) × IfSome p (λ y. eqb x y ≡ false))

  at_last : (o p : Option ℕ) (xs ys : List ℕ) (s u : S) (t w : T) → AlwaysYields steps (λ x. x) s xs → AlwaysYields others (λ x. x) t ys → steps s o u → others t p w → Last o p → r ≡ equal_lists xs ys
  at_last None None (x ∷ xs) ys s u t w e f a b h = absurd (e.0 u a)
  at_last None (Some y) (x ∷ xs) ys s u t w e f a b h = absurd (e.0 u a)
  at_last (Some x) None [] ys s u t w e f a b h = absurd (e x u a)
  at_last (Some x) (Some y) [] ys s u t w e f a b h = absurd (e x u a)
  at_last None None [] (y ∷ ys) s u t w e f a b h = absurd (f.0 w b)
  at_last None (Some y) [] [] s u t w e f a b h = absurd (f y w b)
  at_last (Some x) None (z ∷ xs) (y ∷ ys) s u t w e f a b h = absurd (f.0 w b)
  at_last (Some x) (Some y) (z ∷ xs) [] s u t w e f a b h = absurd (f y w b)
  at_last None None [] [] s u t w e f a b h = h
  at_last None (Some y) [] (z ∷ ys) s u t w e f a b h = h
  at_last (Some x) None (z ∷ xs) [] s u t w e f a b h = h.0
  at_last (Some x) (Some y) (x' ∷ xs) (y' ∷ ys) s u t w e f a b h =
      h.0 ∙ sym (and_left (eqb x' y') (equal_lists xs ys) (ap (λ z. eqb z y') (sym (e.1 x u a).0) ∙ (ap (eqb x) (sym (f.1 y w b).0) ∙ h.1)))

  along : (cs bs : List ℕ) (o p : Option ℕ) (xs ys : List ℕ) (s u : S) (t w : T) → AlwaysYields steps (λ x. x) s xs → AlwaysYields others (λ x. x) t ys
      → YieldsThen steps s cs o u → YieldsThen others t bs p w → AllZip (λ x y. eqb x y ≡ true) cs bs → Last o p → r ≡ equal_lists xs ys
  along [] [] o p xs ys s u t w e f a b z h = at_last o p xs ys s u t w e f (subst (λ j. steps j o u) (sym a.1) a.2) (subst (λ j. others j p w) (sym b.1) b.2) h
  along [] (y ∷ bs) o p xs ys s u t w e f a b z h = absurd z
  along (x ∷ cs) [] o p xs ys s u t w e f a b z h = absurd z
  along (x ∷ cs) (y ∷ bs) o p [] ys s u t w e f a b z h = absurd (e x a.1.0 a.1.1)
  along (x ∷ cs) (y ∷ bs) o p (x' ∷ xs) [] s u t w e f a b z h = absurd (f y b.1.0 b.1.1)
  along (x ∷ cs) (y ∷ bs) o p (x' ∷ xs) (y' ∷ ys) s u t w e f a b z h =
      let m = e.1 x a.1.0 a.1.1 in
      let n = f.1 y b.1.0 b.1.1 in
      along cs bs o p xs ys a.1.0 u b.1.0 w m.1 n.1 (a.0, a.1.2, a.2) (b.0, b.1.2, b.2) z.1 h
      ∙ sym (ap (λ c. c && equal_lists xs ys) (ap (λ k. eqb k y') (sym m.0) ∙ (ap (eqb x) (sym n.0) ∙ z.0)))

-- what `eq` says, where Becomes holds of what the other iterator became
pub equal_from : {S T : Type 0} {steps : S → Option ℕ → S → Type 0} {others : T → Option ℕ → T → Type 0} {s : S} {xs ys : List ℕ} (Becomes : T → Type 0) (r : Bool)
    → (it : T) × (cs : List ℕ) × (bs : List ℕ) × (o : Option ℕ) × (p : Option ℕ) × (u : S) × (v : T) × Becomes it × YieldsThen steps s cs o u × YieldsThen others it bs p v × AllZip (λ x y. eqb x y ≡ true) cs bs × Last steps others r o p
    → YieldsList steps (λ x. x) s xs → ((it : T) → Becomes it → YieldsList others (λ x. x) it ys) → r ≡ equal_lists xs ys
equal_from {steps = steps} {others = others} {s = s} {xs = xs} {ys = ys} Becomes r d e f =
    along steps others r d.1 d.2 d.3 d.4 xs ys s d.5 d.0 d.6 e.runs (f d.0 d.7).runs d.8 d.9 d.10 d.11

-- the numbers at the places of a list
joins : (o : Option ℕ) (os : List (Option ℕ)) (rest : List ℕ) → rest ≡ somes os → cons_option o rest ≡ somes (o ∷ os)
joins None os rest e = e
joins (Some x) os rest e = ap (λ l. x ∷ l) e

places-from : (os : List (Option ℕ)) (q : ℕ → Option ℕ) (a n : ℕ) → n ≡ length os → ((k : ℕ) → k < length os → q (a + k) ≡ get_or os k None) → filter_map q (range_with_len a n) ≡ somes os
places-from [] q a zero e h = refl
places-from [] q a (suc n) e h = absurd (omega arith)
places-from (o ∷ os) q a zero e h = absurd (omega arith)
places-from (o ∷ os) q a (suc n) e h =
    let first : a + 0 ≡ a = omega arith in
    ap (λ p. cons_option p (filter_map q (range_with_len (a + 1) n))) (ap q (sym first) ∙ h 0 (omega arith))
    ∙ joins o os _ (places-from os q (a + 1) n (omega arith) (λ k l. let next : a + 1 + k ≡ a + suc k = omega arith in ap q next ∙ h (suc k) (omega arith)))

pub all-places : (os : List (Option ℕ)) (n : ℕ) → n ≡ length os → filter_map (λ k. get_or os k None) (range_with_len 0 n) ≡ somes os
all-places os n e = places-from os (λ k. get_or os k None) 0 n e (λ k h. let here : 0 + k ≡ k = omega arith in ap (λ i. get_or os i None) here)
