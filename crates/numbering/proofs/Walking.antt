-- The walk over scripts and language systems, and a context that follows it.
use Rattle.std.proofs.Common.{◌≡◌, ℕ, ◌+◌, ◌<◌, ◌≤◌, min, true, false, ◌||◌, ltb, List, [], ◌∷◌, ◌++◌, length, get_or, drop, Ok, Err, Option, sym, refl, ap, ◌∙◌, subst, arith}
use Rattle.std.proofs.lemmas.List.{length_push, at_drop_more}
use Rattle.std.proofs.lemmas.Bool.{cond_both, cond-true, cond-false}
use Rattle.keys.specs.declared.pairs.Pair.{Pair}
use Rattle.source.specs.declared.parts.LangSys.{LangSys}
use Rattle.source.specs.declared.parts.Standing.{Standing}
use Rattle.source.specs.declared.parts.Standing.TheVariants.{Absent, Unreadable, There}
use Rattle.source.specs.declared.refusals.Refusal.TheVariants.{TooManyPairs}
use Rattle.source.specs.Standings.{mapped, listed}
use Rattle.source.specs.Standings.{counted as tally}
use Rattle.source.specs.Reading.{LangSysTable, LangSysRecord, ScriptTable, ScriptRecord}
use Rattle.source.specs.Questions.{lang_sys_head, no_lang_sys, no_script}
use Rattle.numbering.specs.declared.systems.PruneLangSysContext.{PruneLangSysContext}
use Rattle.numbering.specs.Sets.{among}
use Rattle.numbering.specs.Systems.{Walk, Step, visit, succeeds, collect, keep_pair, count_script, walk_on, compared, record_step, like_default, names, names_of, walk_records, visit_default, is_empty, walk_script, counted_script, kept_step, script_step, walk_scripts}
use Rattle.numbering.specs.Context.{Agrees, Marked, visited, with_pair, Goes}
use Rattle.numbering.proofs.Looking.{system-there}

module _ {ms : List ℕ} where
  pub agrees-visited : {c : PruneLangSysContext} {w : Walk} (t : LangSysTable) (n : ℕ) → n ≡ length t.indices → Agrees ms c w → Agrees ms (visited n c) (visit t w)
  agrees-visited {c} {w} t n e a = record {
    scripts = a.scripts;
    sum = ap (λ s. min (s + n) 65535) a.sum ∙ ap (λ k. min (w.sum + k) 65535) e;
    flags = a.flags;
    named = a.named;
    filled = a.filled;
    pairs = a.pairs;
  }

  pub agrees-collected : {c c' : PruneLangSysContext} {w : Walk} (t : LangSysTable) → Agrees ms c w → Marked ms (among (names t)) c c' → Agrees ms c' (collect t w)
  agrees-collected {c} {c'} {w} t a m = record {
    scripts = m.scripts ∙ a.scripts;
    sum = m.sum ∙ a.sum;
    flags = omega (arith, a.flags, m.flags);
    named = λ p h. m.named p h ∙ ap (λ b. among (names t) (get_or ms p 0) || b) (a.named p h);
    filled = omega (arith, ap length m.pairs, a.filled);
    pairs = m.pairs ∙ a.pairs;
  }

  pub agrees-pair : {c : PruneLangSysContext} {w : Walk} (p : Pair) → length c.pairs < 2048 → Agrees ms c w → Agrees ms (with_pair p c) (keep_pair p w)
  agrees-pair {c} {w} p h a = record {
    scripts = a.scripts;
    sum = a.sum;
    flags = a.flags;
    named = a.named;
    filled = omega (arith, length_push c.pairs p);
    pairs = ap (λ l. l ++ (p ∷ [])) a.pairs;
  }

-- a language system that is collected

module _ {ms : List ℕ} (m : ℕ → Option ℕ) (d : Standing LangSysTable) (p : Pair) {c c' : PruneLangSysContext} (s : Standing LangSysTable) (l : LangSys) (w : Walk) (e : There l ≡ mapped lang_sys_head s) (yes : ltb (visited l.count c).langsys_feature_count 5000 ≡ true) (unlike : like_default m s d ≡ false) (marked : Marked ms (among (names_of s)) (visited l.count c) c') (a : Agrees ms c w) where
  abbrev table : LangSysTable
  table = (system-there s l e).0

  done : Agrees ms c' (collect table (visit table w))
  done =
      agrees-collected table (agrees-visited table l.count (ap (λ x. x.count) (system-there s l e).2) a)
      (subst (λ x. Marked ms (among (names_of x)) (visited l.count c) c') (system-there s l e).1 marked)

  success : succeeds (visit table w) ≡ true
  success = ap (λ n. ltb n 5000) (sym (agrees-visited table l.count (ap (λ x. x.count) (system-there s l e).2) a).sum) ∙ yes

  step : record_step m d p s w ≡ record { goes_on = true; left = keep_pair p (collect table (visit table w)) }
  step =
      ap (λ x. record_step m d p x w) (system-there s l e).1
      ∙ (cond-true (succeeds (visit table w)) _ _ success
      ∙ ap (λ b. record { goes_on = true; left = compared b p table (visit table w) }) (sym (ap (λ x. like_default m x d) (system-there s l e).1) ∙ unlike))

  pub record-kept : length c'.pairs < 2048 → Goes ms (record_step m d p s w) (with_pair p c') (Ok true)
  record-kept h = subst (λ x. Goes ms x (with_pair p c') (Ok true)) (sym step) (refl, agrees-pair p h done)

  pub record-full : (c'' : PruneLangSysContext) → 2048 ≤ length c'.pairs → Goes ms (record_step m d p s w) c'' (Err TooManyPairs)
  record-full c'' h =
      subst (λ x. Goes ms x c'' (Err TooManyPairs)) (sym step) (refl, omega (arith, ap length done.pairs, length_push w.pairs p))

pub ruleset collected_records = (record-kept, record-full)

-- a script that is walked

-- one more record, or script

pub records-at : (m : ℕ → Option ℕ) (d : Standing LangSysTable) (s k : ℕ) (xs : List LangSysRecord) (w : Walk) → k < length xs → walk_records m d s k (drop k xs) w ≡ walk_on (record_step m d (record { script = s; lang_sys = k }) (get_or xs k no_lang_sys).table w) (walk_records m d s (k + 1) (drop (k + 1) xs))
records-at m d s k xs w h = at_drop_more (λ l. walk_records m d s k l w) xs k no_lang_sys h

pub scripts-at : (m : ℕ → Option ℕ) (ts : List ℕ) (s : ℕ) (xs : List ScriptRecord) (w : Walk) → s < length xs → walk_scripts m ts s (drop s xs) w ≡ walk_on (script_step m ts s (get_or xs s no_script) w) (walk_scripts m ts (s + 1) (drop (s + 1) xs))
scripts-at m ts s xs w h = at_drop_more (λ l. walk_scripts m ts s l w) xs s no_script h

-- pairs only become more

pub walk_on-more : (s : Step) (rest : Walk → Walk) → ((v : Walk) → length v.pairs ≤ length (rest v).pairs) → length s.left.pairs ≤ length (walk_on s rest).pairs
walk_on-more s rest more = cond_both s.goes_on (rest s.left) s.left (λ v. length s.left.pairs ≤ length v.pairs) (λ _. more s.left) (λ _. omega arith)

module _ (m : ℕ → Option ℕ) where
  record-more : (d : Standing LangSysTable) (p : Pair) (s : Standing LangSysTable) (w : Walk) → length w.pairs ≤ length (record_step m d p s w).left.pairs
  record-more d p Absent w = omega arith
  record-more d p Unreadable w = omega arith
  record-more d p (There t) w =
      cond_both {A = Step} (succeeds (visit t w)) _ _ (λ s. length w.pairs ≤ length s.left.pairs)
      (λ _. cond_both (like_default m (There t) d) (visit t w) (keep_pair p (collect t (visit t w))) (λ v. length w.pairs ≤ length v.pairs) (λ _. omega arith) (λ _. omega (arith, length_push w.pairs p)))
      (λ _. omega arith)

  pub records-more : (d : Standing LangSysTable) (s k : ℕ) (xs : List LangSysRecord) (w : Walk) → length w.pairs ≤ length (walk_records m d s k xs w).pairs
  records-more d s k [] w = omega arith
  records-more d s k (x ∷ xs) w =
      let st = record_step m d (record { script = s; lang_sys = k }) x.table w in
      omega (arith, record-more d (record { script = s; lang_sys = k }) x.table w, walk_on-more st (walk_records m d s (k + 1) xs) (λ v. records-more d s (k + 1) xs v))

  default-pairs : (d : Standing LangSysTable) (w : Walk) → (visit_default d w).pairs ≡ w.pairs
  default-pairs Absent w = refl
  default-pairs Unreadable w = refl
  default-pairs (There t) w = cond_both (succeeds (visit t w)) (collect t (visit t w)) (visit t w) (λ v. v.pairs ≡ w.pairs) (λ _. refl) (λ _. refl)

  script-more : (s : ℕ) (d : Standing LangSysTable) (xs : List LangSysRecord) (w : Walk) → length w.pairs ≤ length (counted_script m s d xs w).pairs
  script-more s d xs w =
      cond_both (is_empty xs d) w _ (λ v. length w.pairs ≤ length v.pairs) (λ _. omega arith)
      (λ _. cond_both (ltb w.scripts 500) (walk_script m s d xs w) w (λ v. length w.pairs ≤ length v.pairs)
      (λ _. omega (arith, records-more d s 0 xs (visit_default d (count_script w)), ap length (default-pairs d (count_script w)))) (λ _. omega arith))

  kept_more : (s : ℕ) (t : Standing ScriptTable) (w : Walk) → length w.pairs ≤ length (kept_step m s t w).left.pairs
  kept_more s Absent w = omega arith
  kept_more s Unreadable w = omega arith
  kept_more s (There t) w = script-more s t.default t.records w

  pub scripts-more : (ts : List ℕ) (s : ℕ) (xs : List ScriptRecord) (w : Walk) → length w.pairs ≤ length (walk_scripts m ts s xs w).pairs
  scripts-more ts s [] w = omega arith
  scripts-more ts s (x ∷ xs) w =
      let st = script_step m ts s x w in
      let here : length w.pairs ≤ length (script_step m ts s x w).left.pairs =
      cond_both (among ts x.tag) (kept_step m s x.table w) (record { goes_on = true; left = w }) (λ v. length w.pairs ≤ length v.left.pairs) (λ _. kept_more s x.table w) (λ _. omega arith) in
      omega (arith, here, walk_on-more st (walk_scripts m ts (s + 1) xs) (λ v. scripts-more ts (s + 1) xs v))

-- a list is walked by steps

module _ (s : Step) (rest : Walk → Walk) (here total : Walk) (at : here ≡ walk_on s rest) (whole : here ≡ total) where
  pub step-ends : s.goes_on ≡ false → s.left ≡ total
  step-ends e = sym (cond-false s.goes_on (rest s.left) s.left e) ∙ (sym at ∙ whole)

  pub step-goes : s.goes_on ≡ true → rest s.left ≡ total
  step-goes e = sym (cond-true s.goes_on (rest s.left) s.left e) ∙ (sym at ∙ whole)

  pub step-full : ((v : Walk) → length v.pairs ≤ length (rest v).pairs) → 2048 < length s.left.pairs → 2048 < length total.pairs
  step-full more h = omega (arith, h, walk_on-more s rest more, ap (λ (w : Walk). length w.pairs) (sym at ∙ whole))

pub listed-count : {X : Type 0} (s : Standing (List X)) → tally (mapped length s) ≡ length (listed s)
listed-count Absent = refl
listed-count Unreadable = refl
listed-count (There xs) = refl
