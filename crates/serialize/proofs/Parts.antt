-- Parts of two lists that agree on one side.
use Rattle.std.proofs.Common.{◌≡◌, ℕ, ◌+◌, ◌-◌, ◌<◌, ◌≤◌, List, ◌++◌, length, get_or, take, drop, sym, ap, ◌∙◌, subst, arith}
use lib.Seq.{paste}
use Rattle.std.proofs.lemmas.List.Edits.{take-paste}
use Rattle.std.specs.List.{between}
use Rattle.std.proofs.lemmas.List.{drop-drop, take-take, get_or-take, length-take-le, append_assoc, take-append-le, drop_at}
use Rattle.std.proofs.lemmas.Slice.{between_is}

module _ {X : Type 0} (xs ys : List X) where
  pub drop-same : (h a : ℕ) → h ≤ a → drop h ys ≡ drop h xs → drop a ys ≡ drop a xs
  drop-same h a le e =
      let p : h + (a - h) ≡ a = omega arith in
      subst (λ k. drop k ys ≡ drop k xs) p (sym (drop-drop (a - h) h ys) ∙ ap (drop (a - h)) e ∙ drop-drop (a - h) h xs)

  pub take_same : (b h : ℕ) → b ≤ h → take h ys ≡ take h xs → take b ys ≡ take b xs
  take_same b h le e = sym (take-take b h ys le) ∙ ap (take b) e ∙ take-take b h xs le

  pub between-high : (h a b : ℕ) → h ≤ a → drop h ys ≡ drop h xs → between a b ys ≡ between a b xs
  between-high h a b le e = ap (take (b - a)) (drop-same h a le e)

  pub between-low : (h a b : ℕ) → b ≤ h → take h ys ≡ take h xs → between a b ys ≡ between a b xs
  between-low h a b le e = between_is ys a b ∙ ap (drop a) (take_same b h le e) ∙ sym (between_is xs a b)

  pub getD-same : (n i : ℕ) (d : X) → i < n → take n ys ≡ take n xs → get_or ys i d ≡ get_or xs i d
  getD-same n i d lt e = sym (get_or-take n ys i d lt) ∙ ap (λ l. get_or l i d) e ∙ get_or-take n xs i d lt

module _ {X : Type 0} (d : List X) (at : ℕ) (s : List X) (n : ℕ) (in-d : at + n ≤ length d) (in-s : n ≤ length s) where
  pub take-paste-low : (k : ℕ) → k ≤ at → take k (paste d at s n) ≡ take k d
  take-paste-low k le =
      let e : length (take at d) ≡ at = length-take-le at d (omega arith) in
      ap (take k) (append_assoc (take at d) (take n s) (drop (at + n) d))
      ∙ take-append-le k (take at d) (take n s ++ drop (at + n) d) (omega arith)
      ∙ take-take k at d le

  pub between-paste : between at (at + n) (paste d at s n) ≡ take n s
  between-paste =
      let e : length (take at d) ≡ at = length-take-le at d (omega arith) in
      between_is (paste d at s n) at (at + n) ∙ ap (drop at) (take-paste d at s n (omega arith) in-s) ∙ drop_at (take at d) (take n s) at e
