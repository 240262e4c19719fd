-- What one key more makes of keys in order. Assumes nothing but the laws of a key type.
use Rattle.std.proofs.Common.{◌≡◌, ℕ, ◌+◌, ◌-◌, ◌<◌, ◌≤◌, min, List, ◌++◌, length, get_or, take, drop, sym, refl, ap, ◌∙◌, subst, inl, inr, ⊎_elim, arith}
use Rattle.std.specs.List.{insert}
use Rattle.std.proofs.lemmas.List.{length-take, take_all, take_at}
use Rattle.std.proofs.lemmas.List.Edits.{length-insert, get_or-insert_below, get_or-insert_at, get_or-insert_above}
use Rattle.std.proofs.lemmas.Bool.{cases_lt, cases_order}
use Rattle.keys.specs.Slots.{Ascending, At, Held, Between, Known, Taken, Refused, Joined}
use Rattle.keys.specs.Orders.{Ordered}

module _ {X : Type 0} (fs : List X) (at : ℕ) (x : X) (le : at ≤ length fs) where
  -- the key put in, the keys below it and those above it
  here : (d : X) (i : ℕ) → i ≡ at → get_or (insert fs at x) i d ≡ x
  here d i e = ap (λ k. get_or (insert fs at x) k d) e ∙ get_or-insert_at fs at x d le

  low : (d : X) (i : ℕ) → i < at → get_or (insert fs at x) i d ≡ get_or fs i d
  low d i lt = get_or-insert_below fs at x d i lt le

  high : (d : X) (i : ℕ) → at < i → get_or (insert fs at x) i d ≡ get_or fs (i - 1) d
  high d i lt =
      let e : i ≡ i - 1 + 1 = omega arith in
      ap (λ k. get_or (insert fs at x) k d) e ∙ get_or-insert_above fs at x d (i - 1) (omega arith) le

  -- the filled part afterwards
  pub take_inserted : (n : ℕ) (rest : List X) → n ≡ length fs → take (n + 1) (insert fs at x ++ rest) ≡ insert fs at x
  take_inserted n rest e = take_at (insert fs at x) rest (n + 1) (length-insert fs at x le ∙ omega arith)

  module _ (before : X → X → Type 0) (up : Ascending before fs) (sides : Between before fs x at) where
    moved : {a b c d : X} → a ≡ b → c ≡ d → before b d → before a c
    moved {a} {b} {c} {d} p q h = subst (λ y. before y c) (sym p) (subst (λ y. before b y) (sym q) h)

    pub ascending-inserted : Ascending before (insert fs at x)
    ascending-inserted i j d lt within =
        let n = length-insert fs at x le in
        ⊎_elim
        (λ (e : j ≡ at). moved (low d i (omega arith)) (here d j e) (sides.0 i d (omega arith)))
        (⊎_elim
        (λ (l : j < at). moved (low d i (omega arith)) (low d j l) (up i j d lt (omega arith)))
        (λ (g : at < j).
        ⊎_elim
        (λ (e : i ≡ at). moved (here d i e) (high d j g) (sides.1 (j - 1) d (omega arith) (omega arith)))
        (⊎_elim
        (λ (l : i < at). moved (low d i l) (high d j g) (up i (j - 1) d (omega arith) (omega arith)))
        (λ (h : at < i). moved (high d i h) (high d j g) (up (i - 1) (j - 1) d (omega arith) (omega arith))))
        (cases_order i at)))
        (cases_order j at)

  module _ (same : X → X → Type 0) where
    as_same : {a b y : X} → a ≡ b → same a y → same b y
    as_same {a} {b} {y} e s = subst (λ z. same z y) e s

    pub joined-inserted : Joined same fs (insert fs at x) x
    joined-inserted y =
        let n = length-insert fs at x le in (
          λ (i, (lt, f)).
              ⊎_elim
              (λ (e : i ≡ at). inr (as_same (here y i e) (f y)))
              (⊎_elim
              (λ (l : i < at). inl (i, (omega arith, λ d. as_same (low d i l) (f d))))
              (λ (g : at < i). inl (i - 1, (omega arith, λ d. as_same (high d i g) (f d)))))
              (cases_order i at),
          ⊎_elim
              (λ (i, (lt, f)).
              ⊎_elim
              (λ (l : i < at). (i, (omega arith, λ d. as_same (sym (low d i l)) (f d))))
              (λ (g : at ≤ i). (i + 1, (omega arith, λ d. as_same (sym (get_or-insert_above fs at x d i g le)) (f d))))
              (cases_lt i at))
              (λ s. (at, (omega arith, λ d. as_same (sym (get_or-insert_at fs at x d le)) s))),
        )

-- a known key adds nothing
pub joined-known : {X : Type 0} {before same : X → X → Type 0} → Ordered before same → (fs : List X) (x : X) → Held same fs x → Joined same fs fs x
joined-known o fs x (i, (lt, f)) y =
    (inl, ⊎_elim (λ h. h) (λ s. (i, (lt, λ d. o.same_trans _ _ _ (f d) s))))

-- the filled part, by the number of slots in it
pub take-filled : {X : Type 0} (len : ℕ) (xs : List X) (n : ℕ) → n ≡ min len (length xs) → take n xs ≡ take len xs
take-filled len xs n e =
    ⊎_elim
    (λ (l : len < length xs). let p : n ≡ len = omega arith in ap (λ k. take k xs) p)
    (λ (g : length xs ≤ len). take_all n xs (omega arith) ∙ sym (take_all len xs g))
    (cases_lt len (length xs))

-- The three ends of an insertion of x, where n of the slots xs are filled.
module _ {X : Type 0} {before same : X → X → Type 0} (o : Ordered before same) (len n : ℕ) (xs : List X) (x : X) (count : n ≡ min len (length xs)) where
  whole : take (n - 0) xs ≡ take len xs
  whole = take-filled len xs (n - 0) (omega arith)

  size : n ≡ length (take len xs)
  size = simp length-take count

  pub known : (i : ℕ) → At (λ y. same y x) (take (n - 0) xs) i → Known same len x xs xs n × (Ascending before (take len xs) → Ascending before (take n xs)) × Joined same (take len xs) (take n xs) x
  known i at =
      let held : Held same (take len xs) x = (i, subst (λ l. At (λ y. same y x) l i) whole at) in
      let back = sym (take-filled len xs n count) in
      (record { kept = refl; count = size; held = held }, λ up. subst (Ascending before) back up, subst (λ l. Joined same (take len xs) l x) back (joined-known o (take len xs) x held))

  module _ (at : ℕ) (placed : Ascending before (take (n - 0) xs) → (Held same (take (n - 0) xs) x → ⊥) × Between before (take (n - 0) xs) x at) where
    apart : Ascending before (take len xs) → (Held same (take len xs) x → ⊥) × Between before (take len xs) x at
    apart = subst (λ l. Ascending before l → (Held same l x → ⊥) × Between before l x at) whole placed

    pub refused : n ≡ length xs → Refused before same len x xs xs × (Ascending before (take len xs) → Ascending before xs)
    refused e =
        let full : take len xs ≡ xs = take_all len xs (omega arith) in
        (record { kept = refl; full = full; new_key = λ up. subst (λ l. Ascending before l → Held same l x → ⊥) full (λ u. (apart u).0) up }, λ up. subst (Ascending before) full up)

    pub taken : (new : List X) → at ≤ length (take (n - 0) xs) → (n ≡ length xs → ⊥) → new ≡ insert (take n xs) at x ++ drop (n + 1) xs → Taken before same len x xs new (n + 1) × (Ascending before (take len xs) → Ascending before (take (n + 1) new)) × Joined same (take len xs) (take (n + 1) new) x
    taken new found room is =
        let fs = take len xs in
        let le : at ≤ length fs = subst (λ l. at ≤ length l) whole found in
        let slots : new ≡ insert fs at x ++ drop (n + 1) xs =
        is ∙ ap (λ l. insert l at x ++ drop (n + 1) xs) (take-filled len xs n count) in
        let back : insert fs at x ≡ take (n + 1) new =
        sym (ap (take (n + 1)) slots ∙ take_inserted fs at x le n (drop (n + 1) xs) size) in
        let filled-now : Taken before same len x xs new (n + 1) = record {
          place = at;
          within = le;
          room = omega (arith, size);
          count = ap (λ k. k + 1) size;
          slots = slots;
          new_key = λ up. (apart up).0;
          sides = λ up. (apart up).1;
        } in
        (filled-now, λ up. subst (Ascending before) back (ascending-inserted fs at x le before up (apart up).1), subst (λ l. Joined same fs l x) back (joined-inserted fs at x le same))
