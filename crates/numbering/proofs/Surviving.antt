-- The steps of the survivors' stage.
use Rattle.std.proofs.Common.{◌≡◌, ℕ, ◌+◌, ◌<◌, Bool, true, false, List, [], ◌∷◌, length, get_or, drop, refl, ap, ◌∙◌}
use Rattle.std.proofs.lemmas.List.{at_drop_more}
use Rattle.source.specs.declared.parts.Standing.{Standing}
use Rattle.source.specs.declared.parts.Standing.TheVariants.{Absent, Unreadable, There}
use Rattle.source.specs.Reading.{Reading}
use Rattle.numbering.specs.Stages.{judged, surviving, survivors}
use Rattle.numbering.proofs.Growing.{written-more}

surviving-none : (i : ℕ) (s : Standing Bool) (rest : List ℕ) → ((b : Bool) → s ≡ There b → ⊥) → surviving i s rest ≡ []
surviving-none i Absent rest h = refl
surviving-none i Unreadable rest h = refl
surviving-none i (There b) rest h = absurd (h b refl)

module _ (r : Reading) (ls fs : List ℕ) (j : ℕ) (in' : j < length fs) where
  step : survivors r ls (drop j fs) ≡ surviving (get_or fs j 0) (judged r ls (get_or fs j 0)) (survivors r ls (drop (j + 1) fs))
  step = at_drop_more (survivors r ls) fs j 0 in'

  pub survives : judged r ls (get_or fs j 0) ≡ There true → survivors r ls (drop j fs) ≡ get_or fs j 0 ∷ survivors r ls (drop (j + 1) fs)
  survives e = step ∙ ap (λ s. surviving (get_or fs j 0) s (survivors r ls (drop (j + 1) fs))) e

  pub goes : judged r ls (get_or fs j 0) ≡ There false → survivors r ls (drop j fs) ≡ survivors r ls (drop (j + 1) fs)
  goes e = step ∙ ap (λ s. surviving (get_or fs j 0) s (survivors r ls (drop (j + 1) fs))) e

  pub stops : ((b : Bool) → judged r ls (get_or fs j 0) ≡ There b → ⊥) → survivors r ls (drop j fs) ≡ []
  stops h = step ∙ surviving-none (get_or fs j 0) (judged r ls (get_or fs j 0)) (survivors r ls (drop (j + 1) fs)) h

pub ruleset survival = (survives, goes, stops, written-more)
