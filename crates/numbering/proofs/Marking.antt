-- Flags beside matched indices.
use Rattle.std.proofs.Common.{◌≡◌, ℕ, ◌+◌, ◌<◌, ◌≤◌, Bool, true, false, ◌||◌, eqb, ◌≢◌, List, [], ◌∷◌, ◌++◌, length, get_or, take, set, sym, refl, ap, ◌∙◌, ⊎_elim, arith}
use Rattle.std.proofs.lemmas.List.{get_or_default, get_or-set_same, get_or-set_other, take_more, take_all, length-set}
use Rattle.std.proofs.lemmas.Bool.{eq-eqb, ne_eqb, cases_eq, cases_lt}
use Rattle.keys.specs.Slots.{Held}
use Rattle.numbering.specs.declared.systems.PruneLangSysContext.{PruneLangSysContext}
use Rattle.numbering.specs.Sets.{Ascends, among}
use Rattle.numbering.specs.Context.{Marked}

or_swap : (a b c : Bool) → (a || (b || c)) ≡ (b || (a || c))
or_swap true true c = refl
or_swap true false c = refl
or_swap false b c = refl

or_assoc : (a b c : Bool) → (a || (b || c)) ≡ ((a || b) || c)
or_assoc true b c = refl
or_assoc false b c = refl

among-push : (xs : List ℕ) (y x : ℕ) → among (xs ++ (y ∷ [])) x ≡ (eqb y x || among xs x)
among-push [] y x = refl
among-push (z ∷ zs) y x = ap (λ b. eqb z x || b) (among-push zs y x) ∙ or_swap (eqb z x) (eqb y x) (among zs x)

-- no index stands at two places
apart : (ms : List ℕ) (p q : ℕ) → Ascends ms → p < length ms → q < length ms → p ≢ q → get_or ms p 0 ≢ get_or ms q 0
apart ms p q up hp hq n e =
    ⊎_elim (λ h. omega (arith, up p q 0 h hq, e)) (λ h. omega (arith, up q p 0 (omega (arith, n)) hp, e)) (cases_lt p q)

flag_at : (ms : List ℕ) (fs : List Bool) (p x : ℕ) → Ascends ms → length ms ≤ length fs → p < length ms → ((d : ℕ) → get_or ms p d ≡ x) → (q : ℕ) → q < length ms → get_or (set fs p true) q false ≡ (eqb x (get_or ms q 0) || get_or fs q false)
flag_at ms fs p x up room h e q k =
    ⊎_elim
    (λ s. ap (λ i. get_or (set fs p true) i false) s ∙ (get_or-set_same fs p true false (omega arith) ∙ sym (ap (λ b. b || get_or fs q false) (eq-eqb x (get_or ms q 0) (sym (ap (λ i. get_or ms i 0) s ∙ e 0))))))
    (λ n. get_or-set_other fs p q true false n ∙ sym (ap (λ b. b || get_or fs q false) (ne_eqb x (get_or ms q 0) (λ s. apart ms q p up k h n (sym (e 0 ∙ s))))))
    (cases_eq q p)

pub marked-at : (ms : List ℕ) (c : PruneLangSysContext) (p x : ℕ) → Ascends ms → length ms ≤ length c.named → p < length ms → ((d : ℕ) → get_or ms p d ≡ x) → Marked ms (eqb x) c (record { script_count = c.script_count; langsys_feature_count = c.langsys_feature_count; named = set c.named p true; pairs = c.pairs })
marked-at ms c p x up room h e = record { scripts = refl; sum = refl; pairs = refl; flags = length-set c.named p true; named = flag_at ms c.named p x up room h e }

pub marked-absent : (ms : List ℕ) (c : PruneLangSysContext) (x : ℕ) → (Held (λ (a b : ℕ). a ≡ b) ms x → ⊥) → Marked ms (eqb x) c c
marked-absent ms c x n =
    record { scripts = refl; sum = refl; pairs = refl; flags = refl; named = λ p h. sym (ap (λ b. b || get_or c.named p false) (ne_eqb x (get_or ms p 0) (λ e. n (p, (h, λ d. get_or_default ms p d 0 h ∙ sym e))))) }

module _ {ms : List ℕ} where
  pub marked-as : {q q' : ℕ → Bool} {a b : PruneLangSysContext} → ((x : ℕ) → q x ≡ q' x) → Marked ms q a b → Marked ms q' a b
  marked-as {a = a} e m =
      record { scripts = m.scripts; sum = m.sum; pairs = m.pairs; flags = m.flags; named = λ p h. m.named p h ∙ ap (λ t. t || get_or a.named p false) (e (get_or ms p 0)) }

  pub marked-after : {p q : ℕ → Bool} {a b c : PruneLangSysContext} → Marked ms p a b → Marked ms q b c → Marked ms (λ x. q x || p x) a c
  marked-after {p} {q} {a} m n = record {
    scripts = n.scripts ∙ m.scripts;
    sum = n.sum ∙ m.sum;
    pairs = n.pairs ∙ m.pairs;
    flags = n.flags ∙ m.flags;
    named = λ i h. n.named i h ∙ (ap (λ t. q (get_or ms i 0) || t) (m.named i h) ∙ or_assoc (q (get_or ms i 0)) (p (get_or ms i 0)) (get_or a.named i false));
  }

  -- one more of the listed indices
  pub marked_more : (xs : List ℕ) (k x : ℕ) {a b c : PruneLangSysContext} → k < length xs → get_or xs k 0 ≡ x → Marked ms (among (take k xs)) a b → Marked ms (eqb x) b c → Marked ms (among (take (k + 1) xs)) a c
  marked_more xs k x h e m n =
      marked-as (λ y. sym (ap (λ l. among l y) (take_more xs k 0 h) ∙ (among-push (take k xs) (get_or xs k 0) y ∙ ap (λ i. eqb i y || among (take k xs) y) e))) (marked-after m n)

  pub marked_all : (xs : List ℕ) (k : ℕ) {a b : PruneLangSysContext} → length xs ≤ k → Marked ms (among (take k xs)) a b → Marked ms (among xs) a b
  marked_all xs k h m = marked-as (λ x. ap (λ l. among l x) (take_all k xs h)) m
