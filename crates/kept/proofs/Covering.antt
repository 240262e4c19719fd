-- One part more of a list.
use Rattle.std.proofs.Common.{◌≡◌, ℕ, ◌+◌, ◌<◌, List, [], length, get_or, IfSome, Option, Ok, Result, ap, ◌∙◌, subst, inl, inr, ⊎_elim, arith, below_more}
use Rattle.std.specs.Result.{result_ok}
use Rattle.std.proofs.lemmas.List.{get_or_default}
use Rattle.kept.specs.Cuts.{Gains, Covers}

module _ {W X : Type 0} (same : X → X → Type 0) (says : List ℕ → W → Type 0) (has : W → X → Type 0) (ps : List (List ℕ)) where
  pub covers_none : (xs : List X) → length xs ≡ 0 → Covers same says has ps xs 0
  covers_none xs none = (λ i h. absurd (omega arith), λ x (i, (lt, f)). absurd (omega arith))

  pub covers_more : (old new : List X) (k : ℕ) (w : W) → Covers same says has ps old k → says (get_or ps k []) w → Gains same old new (has w) → Covers same says has ps new (k + 1)
  covers_more old new k w c s g = (
    below_more _ _
        (λ i h. let d = c.0 i h in (d.0, d.1, λ x of. (g x).1 (inl (d.2 x of))))
        (w, s, λ x of. (g x).1 (inr of)),
    λ x h.
        ⊎_elim
        (λ o. let d = c.1 x o in let lt : d.0 < k + 1 = omega (arith, d.1) in (d.0, lt, d.2, d.3, d.4))
        (λ of. let lt : k < k + 1 = omega arith in (k, lt, w, s, of))
        ((g x).0 h),
  )

-- what the text of the part at a place was read as
pub read_at : {W E : Type 0} (says : List ℕ → W → Type 0) (ps : List (List ℕ)) (k : ℕ) (bs : List ℕ) (r : Option W) (q : Result W E) (w : W) → k < length ps → bs ≡ get_or ps k bs → r ≡ result_ok q → q ≡ Ok w → IfSome r (says bs) → says (get_or ps k []) w
read_at says ps k bs r q w within is as_ok was read =
    let said = subst (λ o. IfSome o (says bs)) (as_ok ∙ ap result_ok was) read in
    subst (λ t. says t w) (is ∙ get_or_default ps k bs [] within) said
