-- The earliest match beside an index, and language systems that are there.
use Rattle.std.proofs.Common.{◌≡◌, ℕ, zero, suc, ◌<◌, false, ◌&&◌, eqb, List, [], ◌∷◌, map, length, get_or, Some, None, Ok, Err, Decides, Option, Result, sym, refl, ap, ◌∙◌, ⊎_elim, arith}
use Rattle.std.specs.List.{slice_get}
use Rattle.std.proofs.lemmas.Bool.{cases_Bool, eq-eqb, ne_eqb, cond-true, cond-false, and_left}
use Rattle.std.specs.Option.{MatchOption}
use Rattle.std.specs.Result.{result_ok}
use Rattle.keys.specs.Slots.{Held, Found, Placed}
use Rattle.keys.specs.Tags.{TagSame}
use Rattle.keys.specs.declared.tags.Tag.{Tag}
use Rattle.source.specs.declared.parts.Standing.{Standing}
use Rattle.source.specs.declared.parts.Standing.TheVariants.{Absent, Unreadable, There}
use Rattle.source.specs.declared.parts.LangSys.{LangSys}
use Rattle.source.specs.Standings.{mapped}
use Rattle.source.specs.Reading.{LangSysTable}
use Rattle.source.specs.Questions.{indices_of, lang_sys_head}
use Rattle.numbering.specs.Sets.{Ascends, among, somes, equal_lists, lookup_beside}
use Rattle.numbering.specs.Systems.{code_of, matches, like_default}
use Rattle.numbering.proofs.Members.{among-decides, there-same, none-some}

pub ascends-tail : (x : ℕ) (xs : List ℕ) → Ascends (x ∷ xs) → Ascends xs
ascends-tail x xs up i j d h k = up (suc i) (suc j) d (omega arith) (omega arith)

pub lookup-at : (ms es : List ℕ) (p x : ℕ) → Ascends ms → length ms ≡ length es → p < length ms → ((d : ℕ) → get_or ms p d ≡ x) → lookup_beside eqb ms es x ≡ Some (get_or es p 0)
lookup-at [] es p x up a h e = absurd (omega arith)
lookup-at (m ∷ ms) [] p x up a h e = absurd (omega arith)
lookup-at (m ∷ ms) (v ∷ vs) zero x up a h e = cond-true (eqb x m) (Some v) (lookup_beside eqb ms vs x) (eq-eqb x m (sym (e 0)))
lookup-at (m ∷ ms) (v ∷ vs) (suc p) x up a h e =
    let low : m < get_or ms p 0 = up 0 (suc p) 0 (omega arith) h in
    cond-false (eqb x m) (Some v) (lookup_beside eqb ms vs x) (ne_eqb x m (λ s. omega (arith, low, s, e 0)))
    ∙ lookup-at ms vs p x (ascends-tail m ms up) (omega arith) (omega arith) e

pub lookup-none : (ms es : List ℕ) (x : ℕ) → (Held (λ (a b : ℕ). a ≡ b) ms x → ⊥) → lookup_beside eqb ms es x ≡ None
lookup-none [] es x n = refl
lookup-none (m ∷ ms) [] x n = refl
lookup-none (m ∷ ms) (v ∷ vs) x n =
    cond-false (eqb x m) (Some v) (lookup_beside eqb ms vs x) (ne_eqb x m (λ s. n (0, (omega arith, λ d. sym s))))
    ∙ lookup-none ms vs x (λ r. n (suc r.0, (omega (arith, r.1.0), λ d. r.1.1 d)))

pub system-there : (s : Standing LangSysTable) (l : LangSys) → There l ≡ mapped lang_sys_head s → (t : LangSysTable) × (s ≡ There t) × (l ≡ lang_sys_head t)
system-there Absent l e = absurd (let z : ◌≡◌ {A = ℕ} 0 1 = cc in omega arith)
system-there Unreadable l e = absurd (let z : ◌≡◌ {A = ℕ} 0 1 = cc in omega arith)
system-there (There t) l e = (t, refl, there-same e)

-- what a search answers
pub found-place : (xs : List ℕ) (x : ℕ) (r : Result ℕ ℕ) (o : Option ℕ) → o ≡ result_ok r → Found (λ (a b : ℕ). a ≡ b) xs x r → Placed (λ a b. a < b) (λ (a b : ℕ). a ≡ b) xs x r → MatchOption o (among xs x ≡ false) (λ q. (q < length xs) × (get_or xs q 0 ≡ x))
found-place xs x (Ok q) o e f p = rw e (f.0, f.1 0)
found-place xs x (Err i) o e f p = rw e (⊎_elim (λ h. absurd (p.0 ((among-decides xs x).0 h))) (λ h. h) (cases_Bool (among xs x)))

-- tags as numbers

held-codes : (ts : List Tag) (x : Tag) → Held TagSame ts x → Held (λ (a b : ℕ). a ≡ b) (map code_of ts) x.code
held-codes [] x h = absurd (omega (arith, h.1.0))
held-codes (t ∷ ts) x (zero, h) = (0, (omega arith, λ d. h.1 t))
held-codes (t ∷ ts) x (suc i, h) = let r = held-codes ts x (i, (omega (arith, h.0), h.1)) in (suc r.0, (omega (arith, r.1.0), λ d. r.1.1 d))

codes-held : (ts : List Tag) (x : Tag) → Held (λ (a b : ℕ). a ≡ b) (map code_of ts) x.code → Held TagSame ts x
codes-held [] x h = absurd (omega (arith, h.1.0))
codes-held (t ∷ ts) x (zero, h) = (0, (omega arith, λ d. h.1 0))
codes-held (t ∷ ts) x (suc i, h) = let r = codes-held ts x (i, (omega (arith, h.0), h.1)) in (suc r.0, (omega (arith, r.1.0), λ d. r.1.1 d))

pub tag-among : (ts : List Tag) (x : Tag) → Decides (among (map code_of ts) x.code) (Held TagSame ts x)
tag-among ts x = (λ e. codes-held ts x ((among-decides (map code_of ts) x.code).0 e), λ h. (among-decides (map code_of ts) x.code).1 (held-codes ts x h))

-- a record and the default of its script

module _ (m : ℕ → Option ℕ) where
  pub unlike_where_absent : (a d : Standing LangSysTable) → ((l : LangSys) → mapped lang_sys_head a ≡ There l → ⊥) → like_default m a d ≡ false
  unlike_where_absent Absent d n = refl
  unlike_where_absent Unreadable d n = refl
  unlike_where_absent (There t) d n = absurd (n (lang_sys_head t) refl)

  pub unlike_without_default : (a d : Standing LangSysTable) → ((l : LangSys) → mapped lang_sys_head d ≡ There l → ⊥) → like_default m a d ≡ false
  unlike_without_default Absent d n = refl
  unlike_without_default Unreadable d n = refl
  unlike_without_default (There a) Absent n = refl
  unlike_without_default (There a) Unreadable n = refl
  unlike_without_default (There a) (There t) n = absurd (n (lang_sys_head t) refl)

  pub unlike_by_required : (a d : Standing LangSysTable) (x y : LangSys) → There x ≡ mapped lang_sys_head a → There y ≡ mapped lang_sys_head d → (x.required ≡ y.required → ⊥) → like_default m a d ≡ false
  unlike_by_required a d x y ea ed n =
      let s = system-there a x ea in
      let t = system-there d y ed in
      ap (λ u. like_default m u d) s.1 ∙ (ap (like_default m (There s.0)) t.1
      ∙ and_left (eqb s.0.required t.0.required) (equal_lists (matches m s.0) (matches m t.0))
      (ne_eqb s.0.required t.0.required (λ e. n (ap (λ u. u.required) s.2 ∙ (e ∙ sym (ap (λ u. u.required) t.2))))))

  pub like_by_matches : (a d : Standing LangSysTable) (x y : LangSys) → There x ≡ mapped lang_sys_head a → There y ≡ mapped lang_sys_head d → x.required ≡ y.required → like_default m a d ≡ equal_lists (somes (map m (indices_of a))) (somes (map m (indices_of d)))
  like_by_matches a d x y ea ed q =
      let s = system-there a x ea in
      let t = system-there d y ed in
      sym (ap (λ u. equal_lists (somes (map m (indices_of u))) (somes (map m (indices_of d)))) s.1
      ∙ (ap (λ u. equal_lists (matches m s.0) (somes (map m (indices_of u)))) t.1
      ∙ (sym (ap (λ z. z && equal_lists (matches m s.0) (matches m t.0)) (eq-eqb s.0.required t.0.required (sym (ap (λ u. u.required) s.2) ∙ (q ∙ ap (λ u. u.required) t.2))))
      ∙ sym (ap (λ u. like_default m u d) s.1 ∙ ap (like_default m (There s.0)) t.1))))

pub ruleset like_defaults = (unlike_where_absent, unlike_without_default, unlike_by_required, like_by_matches)

-- the number at a place

pub nth-found : (xs : List ℕ) (k x : ℕ) → Some x ≡ slice_get xs k → get_or xs k 0 ≡ x
nth-found [] k x e = absurd (none-some (sym e))
nth-found (y ∷ ys) zero x e = cc
nth-found (y ∷ ys) (suc k) x e = nth-found ys k x e

pub nth-there : (xs : List ℕ) (k : ℕ) → k < length xs → ◌≡◌ {A = Option ℕ} None (slice_get xs k) → ⊥
nth-there [] k h e = omega arith
nth-there (y ∷ ys) zero h e = none-some e
nth-there (y ∷ ys) (suc k) h e = nth-there ys k (omega arith) e
