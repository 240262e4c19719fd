-- What a context holds of a walk, and how its parts change.
--   Agrees ms c w      the context c has the counts and pairs of the walk w, and a flag beside each of the indices ms that
--                      a collected language system names
--   Marked ms q c c'   the flags beside the indices of which q holds are set, and nothing else is changed
--   Walks ms w c r     after a call: the context agrees with w, or the pairs of w are more than 2,048
--   Goes ms s c r      the same of a step, and whether it goes on
--   Walked ...         the context agrees with w, and the retained indices and their count are those of w
--   Pruned ...         the same of an answer of the whole stage, or the pairs of w are more than 2,048
--   Paired ms es       indices that ascend, at most 512, each with its earliest match beside it
--   visited            the count of a language system joins the sum
--   with_pair          a pair follows the kept ones
--   chosen bs xs       the numbers that have a flag
use Rattle.std.specs.Prelude.{◌≡◌, ℕ, ◌+◌, ◌<◌, ◌≤◌, min, Bool, false, cond, ◌||◌, List, [], ◌∷◌, ◌++◌, length, take, Result, MatchResult, slice_index, slice_index_or}
use Rattle.keys.specs.declared.pairs.Pair.{Pair}
use Rattle.source.specs.declared.refusals.Refusal.{Refusal}
use Rattle.source.specs.declared.refusals.Refusal.TheVariants.{TooManyPairs}
use Rattle.numbering.specs.declared.systems.PruneLangSysContext.{PruneLangSysContext}
use Rattle.numbering.specs.Sets.{Ascends}
use Rattle.numbering.specs.Systems.{Walk, Step, is_named, retained}

pub record Paired (ms es : List ℕ) : Type 0 where
  pub ascending : Ascends ms
  pub few : length ms ≤ 512
  pub aligned : length ms ≡ length es

pub record Agrees (ms : List ℕ) (c : PruneLangSysContext) (w : Walk) : Type 0 where
  pub scripts : c.script_count ≡ w.scripts
  pub sum : c.langsys_feature_count ≡ w.sum
  pub flags : length ms ≤ length c.named
  pub named : (p : ℕ) → p < length ms → slice_index_or c.named p false ≡ is_named w.collected (slice_index ms p)
  pub filled : length c.pairs ≤ 2048
  pub pairs : c.pairs ≡ w.pairs

pub record Marked (ms : List ℕ) (q : ℕ → Bool) (c c' : PruneLangSysContext) : Type 0 where
  pub scripts : c'.script_count ≡ c.script_count
  pub sum : c'.langsys_feature_count ≡ c.langsys_feature_count
  pub pairs : c'.pairs ≡ c.pairs
  pub flags : length c'.named ≡ length c.named
  pub named : (p : ℕ) → p < length ms → slice_index_or c'.named p false ≡ (q (slice_index ms p) || slice_index_or c.named p false)

abbrev pub counted : PruneLangSysContext → PruneLangSysContext
counted c = record { script_count = c.script_count + 1; langsys_feature_count = c.langsys_feature_count; named = c.named; pairs = c.pairs }

abbrev pub visited : ℕ → PruneLangSysContext → PruneLangSysContext
visited n c = record { script_count = c.script_count; langsys_feature_count = min (c.langsys_feature_count + n) 65535; named = c.named; pairs = c.pairs }

abbrev pub with_pair : Pair → PruneLangSysContext → PruneLangSysContext
with_pair p c = record { script_count = c.script_count; langsys_feature_count = c.langsys_feature_count; named = c.named; pairs = c.pairs ++ (p ∷ []) }

abbrev pub Walks : {X : Type 0} → List ℕ → Walk → PruneLangSysContext → Result X Refusal → Type 0
Walks ms w c r = MatchResult r (λ _. Agrees ms c w) (λ f. (f ≡ TooManyPairs) × (2048 < length w.pairs))

abbrev pub Goes : List ℕ → Step → PruneLangSysContext → Result Bool Refusal → Type 0
Goes ms s c r = MatchResult r (λ b. (b ≡ s.goes_on) × Agrees ms c s.left) (λ f. (f ≡ TooManyPairs) × (2048 < length s.left.pairs))

abbrev pub Walked : List ℕ → Walk → PruneLangSysContext → List ℕ → ℕ → Type 0
Walked ms w c out count = Agrees ms c w × (count ≡ length (retained ms w)) × (take count out ≡ retained ms w)

abbrev pub Pruned : List ℕ → Walk → PruneLangSysContext → List ℕ → Result ℕ Refusal → Type 0
Pruned ms w c out r = MatchResult r (Walked ms w c out) (λ f. (f ≡ TooManyPairs) × (2048 < length w.pairs))

abbrev pub chosen : List Bool → List ℕ → List ℕ
chosen [] xs = []
chosen (b ∷ bs) [] = []
chosen (b ∷ bs) (x ∷ xs) = cond b (x ∷ chosen bs xs) (chosen bs xs)
