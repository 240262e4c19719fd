-- The pairs that the walk keeps are in order.
use Rattle.std.proofs.Common.{◌≡◌, ℕ, ◌+◌, ◌<◌, ◌≤◌, true, ltb, List, [], ◌∷◌, ◌++◌, length, Option, sym, refl, subst, inl, inr, ⊎_elim, arith}
use Rattle.std.specs.List.{AllByRecursion as All}
use Rattle.std.proofs.ByRecursion.{All-get_or, All-push, All-weaker}
use Rattle.std.proofs.lemmas.List.{get_or_append_left, get_or_push, length_push}
use Rattle.std.proofs.lemmas.Bool.{cases_lt, cond_both}
use Rattle.keys.specs.Pairs.{PairBefore}
use Rattle.keys.specs.Slots.{Ascending}
use Rattle.keys.specs.declared.pairs.Pair.{Pair}
use Rattle.source.specs.Reading.{LangSysTable, LangSysRecord, ScriptTable, ScriptRecord, Reading}
use Rattle.source.specs.Standings.{listed}
use Rattle.source.specs.declared.parts.Standing.{Standing}
use Rattle.source.specs.declared.parts.Standing.TheVariants.{Absent, Unreadable, There}
use Rattle.numbering.specs.Sets.{among}
use Rattle.numbering.specs.Systems.{Walk, Step, no_walk, visit, succeeds, collect, keep_pair, count_script, like_default, record_step, walk_records, visit_default, is_empty, walk_script, counted_script, kept_step, script_step, walk_scripts, walked}

module _ {X : Type 0} (R : X → X → Type 0) where
  moved : {a b c d : X} → a ≡ b → c ≡ d → R b d → R a c
  moved {a} {b} {c} {d} p q h = subst (λ x. R x c) (sym p) (subst (R b) (sym q) h)

  -- one more, which all are before
  pub ascending-push : (xs : List X) (y : X) → Ascending R xs → All (λ x. R x y) xs → Ascending R (xs ++ (y ∷ []))
  ascending-push xs y up a i j d h l =
      let size = length_push xs y in
      let low = get_or_append_left xs (y ∷ []) d i (omega arith) in
      ⊎_elim (λ (k : j < length xs). moved low (get_or_append_left xs (y ∷ []) d j k) (up i j d h k))
      (λ (k : length xs ≤ j). moved low (get_or_push xs y d j (omega arith)) (All-get_or (λ x. R x y) xs i d (omega arith) a))
      (cases_lt j (length xs))

pair-trans : (x y z : Pair) → PairBefore x y → PairBefore y z → PairBefore x z
pair-trans x y z (inl a) (inl b) = inl (omega arith)
pair-trans x y z (inl a) (inr b) = inl (omega (arith, b.0))
pair-trans x y z (inr a) (inl b) = inl (omega (arith, a.0))
pair-trans x y z (inr a) (inr b) = inr (omega (arith, a.0, b.0), omega (arith, a.1, b.1))

-- pairs ascend, and all are before p
record Until (p : Pair) (ps : List Pair) : Type 0 where
  ascending : Ascending PairBefore ps
  before : All (λ x. PairBefore x p) ps

until-later : (p q : Pair) (ps : List Pair) → PairBefore p q → Until p ps → Until q ps
until-later p q ps l u = record {
  ascending = u.ascending;
  before = All-weaker (λ x. PairBefore x p) (λ x. PairBefore x q) (λ x h. pair-trans x p q h l) ps u.before;
}

until-push : (p q : Pair) (ps : List Pair) → PairBefore p q → Until p ps → Until q (ps ++ (p ∷ []))
until-push p q ps l u = record {
  ascending = ascending-push PairBefore ps p u.ascending u.before;
  before = All-push (λ x. PairBefore x q) ps p (until-later p q ps l u).before l;
}

abbrev at : ℕ → ℕ → Pair
at s k = record { script = s; lang_sys = k }

next-record : (s k : ℕ) → PairBefore (at s k) (at s (k + 1))
next-record s k = inr (refl, omega arith)

next-script : (s k : ℕ) → PairBefore (at s k) (at (s + 1) 0)
next-script s k = inl (omega arith)

module _ (m : ℕ → Option ℕ) where
  record-until : (d : Standing LangSysTable) (p q : Pair) (t : Standing LangSysTable) (w : Walk) → PairBefore p q → Until p w.pairs → Until q (record_step m d p t w).left.pairs
  record-until d p q Absent w l u = until-later p q w.pairs l u
  record-until d p q Unreadable w l u = until-later p q w.pairs l u
  record-until d p q (There t) w l u =
      cond_both {A = Step} (succeeds (visit t w)) _ _ (λ s. Until q s.left.pairs)
      (λ _. cond_both (like_default m (There t) d) (visit t w) (keep_pair p (collect t (visit t w))) (λ v. Until q v.pairs) (λ _. until-later p q w.pairs l u) (λ _. until-push p q w.pairs l u))
      (λ _. until-later p q w.pairs l u)

  records-until : (d : Standing LangSysTable) (s k : ℕ) (xs : List LangSysRecord) (w : Walk) → Until (at s k) w.pairs → Until (at (s + 1) 0) (walk_records m d s k xs w).pairs
  records-until d s k [] w u = until-later (at s k) (at (s + 1) 0) w.pairs (next-script s k) u
  records-until d s k (x ∷ xs) w u =
      let st = record_step m d (at s k) x.table w in
      let here : Until (at s (k + 1)) (record_step m d (at s k) x.table w).left.pairs = record-until d (at s k) (at s (k + 1)) x.table w (next-record s k) u in
      cond_both st.goes_on (walk_records m d s (k + 1) xs st.left) st.left (λ v. Until (at (s + 1) 0) v.pairs)
      (λ _. records-until d s (k + 1) xs st.left here) (λ _. until-later (at s (k + 1)) (at (s + 1) 0) st.left.pairs (next-script s (k + 1)) here)

  default-until : (p : Pair) (d : Standing LangSysTable) (w : Walk) → Until p w.pairs → Until p (visit_default d w).pairs
  default-until p Absent w u = u
  default-until p Unreadable w u = u
  default-until p (There t) w u = cond_both (succeeds (visit t w)) (collect t (visit t w)) (visit t w) (λ v. Until p v.pairs) (λ _. u) (λ _. u)

  counted-until : (s : ℕ) (d : Standing LangSysTable) (xs : List LangSysRecord) (w : Walk) → Until (at s 0) w.pairs → Until (at (s + 1) 0) (counted_script m s d xs w).pairs
  counted-until s d xs w u =
      let on = until-later (at s 0) (at (s + 1) 0) w.pairs (next-script s 0) u in
      cond_both (is_empty xs d) w _ (λ v. Until (at (s + 1) 0) v.pairs) (λ _. on)
      (λ _. cond_both (ltb w.scripts 500) (walk_script m s d xs w) w (λ v. Until (at (s + 1) 0) v.pairs)
      (λ _. records-until d s 0 xs (visit_default d (count_script w)) (default-until (at s 0) d (count_script w) u)) (λ _. on))

  kept-until : (s : ℕ) (t : Standing ScriptTable) (w : Walk) → Until (at s 0) w.pairs → Until (at (s + 1) 0) (kept_step m s t w).left.pairs
  kept-until s Absent w u = until-later (at s 0) (at (s + 1) 0) w.pairs (next-script s 0) u
  kept-until s Unreadable w u = until-later (at s 0) (at (s + 1) 0) w.pairs (next-script s 0) u
  kept-until s (There t) w u = counted-until s t.default t.records w u

  module _ (ts : List ℕ) where
    script-until : (s : ℕ) (x : ScriptRecord) (w : Walk) → Until (at s 0) w.pairs → Until (at (s + 1) 0) (script_step m ts s x w).left.pairs
    script-until s x w u =
        cond_both (among ts x.tag) (kept_step m s x.table w) (record { goes_on = true; left = w }) (λ v. Until (at (s + 1) 0) v.left.pairs)
        (λ _. kept-until s x.table w u) (λ _. until-later (at s 0) (at (s + 1) 0) w.pairs (next-script s 0) u)

    scripts-ascend : (s : ℕ) (xs : List ScriptRecord) (w : Walk) → Until (at s 0) w.pairs → Ascending PairBefore (walk_scripts m ts s xs w).pairs
    scripts-ascend s [] w u = u.ascending
    scripts-ascend s (x ∷ xs) w u =
        let st = script_step m ts s x w in
        let here : Until (at (s + 1) 0) (script_step m ts s x w).left.pairs = script-until s x w u in
        cond_both st.goes_on (walk_scripts m ts (s + 1) xs st.left) st.left (λ v. Ascending PairBefore v.pairs) (λ _. scripts-ascend (s + 1) xs st.left here) (λ _. here.ascending)

    pub pairs-ascend : (r : Reading) → Ascending PairBefore (walked m ts r).pairs
    pairs-ascend r = scripts-ascend 0 (listed r.scripts) no_walk (record { ascending = λ i j d h l. absurd (omega arith); before = tt })
