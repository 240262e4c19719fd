-- The walk over scripts and language systems, for the earliest match m of each index.
--   names            the indices that a language system requires or lists
--   names_of         the same of one that is there
--   matches          the earliest matches of the listed indices that have one, in order
--   equal_systems    the same required index, and the same matches in order
--   like_default     a record that is there equals the default that is there
--   Walk             what the walk has done: scripts counted, the sum of counts, language systems collected, the last
--                    one first, and pairs kept
--   visit            the count of a language system joins the sum, which stays at 65,535
--   succeeds         the visit of which this is left succeeds
--   Step             whether a list is walked on, and what is left
--   record_step      one language system record
--   script_step      one script
--   retained         the matched indices that a collected language system names
use Rattle.std.specs.Prelude.{ℕ, ◌+◌, min, Bool, true, false, cond, ◌&&◌, List, [], ◌∷◌, ◌++◌, map, length, filter, Option, ◌==◌, nat_lt}
use Rattle.keys.specs.declared.pairs.Pair.{Pair}
use Rattle.keys.specs.declared.tags.Tag.{Tag}
use Rattle.source.specs.declared.parts.Standing.{Standing}
use Rattle.source.specs.declared.parts.Standing.TheVariants.{Absent, Unreadable, There}
use Rattle.source.specs.Standings.{listed}
use Rattle.source.specs.Reading.{LangSysTable, LangSysRecord, ScriptTable, ScriptRecord, Reading}
use Rattle.numbering.specs.Sets.{among, any, somes, equal_lists}

-- language systems

abbrev pub names : LangSysTable → List ℕ
names t = cond (t.required == 65535) t.indices (t.required ∷ t.indices)

abbrev pub names_of : Standing LangSysTable → List ℕ
names_of Absent = []
names_of Unreadable = []
names_of (There t) = names t

abbrev pub matches : (ℕ → Option ℕ) → LangSysTable → List ℕ
matches m t = somes (map m t.indices)

abbrev pub equal_systems : (ℕ → Option ℕ) → LangSysTable → LangSysTable → Bool
equal_systems m a b = a.required == b.required && equal_lists (matches m a) (matches m b)

abbrev pub like_default : (ℕ → Option ℕ) → Standing LangSysTable → Standing LangSysTable → Bool
like_default m (There a) (There d) = equal_systems m a d
like_default m (There a) Absent = false
like_default m (There a) Unreadable = false
like_default m Absent d = false
like_default m Unreadable d = false

-- the walk

pub record Walk : Type 0 where
  pub scripts : ℕ
  pub sum : ℕ
  pub collected : List LangSysTable
  pub pairs : List Pair

pub record Step : Type 0 where
  pub goes_on : Bool
  pub left : Walk

abbrev pub no_walk : Walk
no_walk = record { scripts = 0; sum = 0; collected = []; pairs = [] }

abbrev pub visit : LangSysTable → Walk → Walk
visit t w = record { scripts = w.scripts; sum = min (w.sum + length t.indices) 65535; collected = w.collected; pairs = w.pairs }

abbrev pub succeeds : Walk → Bool
succeeds w = nat_lt w.sum 5000

abbrev pub collect : LangSysTable → Walk → Walk
collect t w = record { scripts = w.scripts; sum = w.sum; collected = t ∷ w.collected; pairs = w.pairs }

abbrev pub keep_pair : Pair → Walk → Walk
keep_pair p w = record { scripts = w.scripts; sum = w.sum; collected = w.collected; pairs = w.pairs ++ (p ∷ []) }

abbrev pub count_script : Walk → Walk
count_script w = record { scripts = w.scripts + 1; sum = w.sum; collected = w.collected; pairs = w.pairs }

abbrev pub walk_on : Step → (Walk → Walk) → Walk
walk_on s rest = cond s.goes_on (rest s.left) s.left

-- a language system whose visit leaves w
abbrev pub compared : Bool → Pair → LangSysTable → Walk → Walk
compared like p t w = cond like w (keep_pair p (collect t w))

abbrev pub visited_step : Bool → Pair → LangSysTable → Walk → Step
visited_step like p t w = cond (succeeds w) (record { goes_on = true; left = compared like p t w }) (record { goes_on = false; left = w })

abbrev pub record_step : (ℕ → Option ℕ) → Standing LangSysTable → Pair → Standing LangSysTable → Walk → Step
record_step m d p Absent w = record { goes_on = true; left = w }
record_step m d p Unreadable w = record { goes_on = false; left = w }
record_step m d p (There t) w = visited_step (like_default m (There t) d) p t (visit t w)

abbrev pub walk_records : (ℕ → Option ℕ) → Standing LangSysTable → ℕ → ℕ → List LangSysRecord → Walk → Walk
walk_records m d s k [] w = w
walk_records m d s k (x ∷ xs) w = walk_on (record_step m d (record { script = s; lang_sys = k }) x.table w) (walk_records m d s (k + 1) xs)

-- scripts

abbrev pub visit_default : Standing LangSysTable → Walk → Walk
visit_default Absent w = w
visit_default Unreadable w = w
visit_default (There t) w = cond (succeeds (visit t w)) (collect t (visit t w)) (visit t w)

abbrev pub is_empty : List LangSysRecord → Standing LangSysTable → Bool
is_empty [] Absent = true
is_empty [] Unreadable = false
is_empty [] (There t) = false
is_empty (x ∷ xs) d = false

abbrev pub walk_script : (ℕ → Option ℕ) → ℕ → Standing LangSysTable → List LangSysRecord → Walk → Walk
walk_script m s d xs w = walk_records m d s 0 xs (visit_default d (count_script w))

abbrev pub counted_script : (ℕ → Option ℕ) → ℕ → Standing LangSysTable → List LangSysRecord → Walk → Walk
counted_script m s d xs w = cond (is_empty xs d) w (cond (nat_lt w.scripts 500) (walk_script m s d xs w) w)

abbrev pub kept_step : (ℕ → Option ℕ) → ℕ → Standing ScriptTable → Walk → Step
kept_step m s Absent w = record { goes_on = true; left = w }
kept_step m s Unreadable w = record { goes_on = false; left = w }
kept_step m s (There t) w = record { goes_on = true; left = counted_script m s t.default t.records w }

abbrev pub script_step : (ℕ → Option ℕ) → List ℕ → ℕ → ScriptRecord → Walk → Step
script_step m ts s x w = cond (among ts x.tag) (kept_step m s x.table w) (record { goes_on = true; left = w })

abbrev pub walk_scripts : (ℕ → Option ℕ) → List ℕ → ℕ → List ScriptRecord → Walk → Walk
walk_scripts m ts s [] w = w
walk_scripts m ts s (x ∷ xs) w = walk_on (script_step m ts s x w) (walk_scripts m ts (s + 1) xs)

abbrev pub walked : (ℕ → Option ℕ) → List ℕ → Reading → Walk
walked m ts r = walk_scripts m ts 0 (listed r.scripts) no_walk

abbrev pub code_of : Tag → ℕ
code_of t = t.code

abbrev pub is_named : List LangSysTable → ℕ → Bool
is_named ts x = any (λ t. among (names t) x) ts

abbrev pub retained : List ℕ → Walk → List ℕ
retained ms w = filter (is_named w.collected) ms
