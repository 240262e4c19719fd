-- The whole numbering of a reading r under kept lookups ls, features fs and script tags ts.
--   Kept            the sets ascend, and none is over its size
--   held            the filled part of a table, which is its value
--   the_matched     the survivors that have an earliest match
--   first_alike     the earliest match of an index
--   match_of        the same, if the index has one
--   the_walk        the walk over scripts and language systems
--   the_retained    the indices that are retained
--   Laws            what holds of every numbering
--   Numbers         a numbering is the defined one, and the laws hold of it
--   Answered        a numbering, or the refusal where more than 2,048 pairs would be kept
--   TurnedAway      what a refusal of sets that are none becomes
--   RefusedWith     what a refusal of a call becomes
--   NumberedOrNot   the same for every input: sets that are none are turned away
use Rattle.std.specs.Prelude.{◌≡◌, ℕ, ◌<◌, ◌≤◌, true, ◌&&◌, List, map, length, Option, Result, MatchResult, nat_eq}
use Rattle.keys.specs.Slots.{Ascending}
use Rattle.keys.specs.Pairs.{PairBefore}
use Rattle.keys.specs.Tags.{TagBefore}
use Rattle.keys.specs.declared.pairs.Pair.{Pair}
use Rattle.keys.specs.declared.tags.Tag.{Tag}
use Rattle.source.specs.Reading.{Reading}
use Rattle.source.specs.declared.refusals.Refusal.{Refusal}
use Rattle.source.specs.declared.refusals.Refusal.TheVariants.{TooManyPairs}
use Rattle.numbering.specs.declared.number.Numbering.{Numbering}
use Rattle.numbering.specs.declared.sets.NotKeptSets.{NotKeptSets as NoKeptSets}
use Rattle.numbering.specs.declared.number.Unnumbered.{Unnumbered}
use Rattle.numbering.specs.declared.number.Unnumbered.TheVariants.{NotKeptSets, Refused}
use Rattle.numbering.specs.Sets.{Ascends, among, lookup_beside}
use Rattle.numbering.specs.Stages.{survivors, matched, earliest, earliest_of, alike}
use Rattle.numbering.specs.Systems.{Walk, walked, retained, is_named, code_of}
use Rattle.numbering.specs.Numbers.{number, owners, Numbered}

pub record Kept (ls fs : List ℕ) (ts : List Tag) : Type 0 where
  pub lookups : Ascends ls
  pub few_lookups : length ls ≤ 1024
  pub features : Ascends fs
  pub few_features : length fs ≤ 512
  pub scripts : Ascending TagBefore ts
  pub few_scripts : length ts ≤ 64

abbrev pub held : List ℕ → List ℕ
held x = x

abbrev pub held_pairs : List Pair → List Pair
held_pairs x = x

abbrev pub the_matched : Reading → List ℕ → List ℕ → List ℕ
the_matched r ls fs = matched r (survivors r ls fs)

abbrev pub first_alike : Reading → List ℕ → List ℕ → ℕ → ℕ
first_alike r ls fs = earliest r ls (the_matched r ls fs)

abbrev pub match_of : Reading → List ℕ → List ℕ → ℕ → Option ℕ
match_of r ls fs = lookup_beside nat_eq (the_matched r ls fs) (earliest_of r ls (survivors r ls fs))

abbrev pub the_walk : Reading → List ℕ → List ℕ → List ℕ → Walk
the_walk r ls fs ts = walked (match_of r ls fs) ts r

abbrev pub the_retained : Reading → List ℕ → List ℕ → List ℕ → List ℕ
the_retained r ls fs ts = retained (the_matched r ls fs) (the_walk r ls fs ts)

-- Indices rs with numbers ns, own numbers n, and pairs ps.
pub record Laws (r : Reading) (ls fs ts rs ns : List ℕ) (n : ℕ) (ps : List Pair) : Type 0 where
  pub once : Ascends rs
  pub exactly : (x : ℕ) → among rs x ≡ (is_named (the_walk r ls fs ts).collected x && among (the_matched r ls fs) x)
  pub numbered : Numbered rs (first_alike r ls fs) (λ x y. alike r ls x y ≡ true) ns n
  pub pairs_once : Ascending PairBefore ps

pub record Numbers (r : Reading) (ls fs ts : List ℕ) (n : Numbering) : Type 0 where
  pub surviving : held n.survivors ≡ survivors r ls fs
  pub matching : held n.earliest ≡ earliest_of r ls (survivors r ls fs)
  pub retaining : held n.retained ≡ the_retained r ls fs ts
  pub numbering : held n.numbers ≡ map (number (the_retained r ls fs ts) (first_alike r ls fs)) (the_retained r ls fs ts)
  pub owned : n.own ≡ length (owners (the_retained r ls fs ts) (first_alike r ls fs))
  pub paired : held_pairs n.pairs ≡ (the_walk r ls fs ts).pairs
  pub laws : Laws r ls fs ts (held n.retained) (held n.numbers) n.own (held_pairs n.pairs)

abbrev pub Answered : Reading → List ℕ → List ℕ → List ℕ → Result Numbering Refusal → Type 0
Answered r ls fs ts x = MatchResult x (Numbers r ls fs ts) (λ f. (f ≡ TooManyPairs) × (2048 < length (the_walk r ls fs ts).pairs))

abbrev pub TurnedAway : NoKeptSets → Unnumbered → Type 0
TurnedAway x u = u ≡ NotKeptSets

abbrev pub RefusedWith : Refusal → Unnumbered → Type 0
RefusedWith f u = u ≡ Refused f

-- what each case of the refusal says
abbrev pub Turned : Reading → List ℕ → List ℕ → List Tag → Unnumbered → Type 0
Turned r ls fs ts NotKeptSets = Kept ls fs ts → ⊥
Turned r ls fs ts (Refused f) = Kept ls fs ts × (f ≡ TooManyPairs) × (2048 < length (the_walk r ls fs (map code_of ts)).pairs)

abbrev pub NumberedOrNot : Reading → List ℕ → List ℕ → List Tag → Result Numbering Unnumbered → Type 0
NumberedOrNot r ls fs ts x = MatchResult x (λ n. Kept ls fs ts × (length (the_walk r ls fs (map code_of ts)).pairs ≤ 2048) × Numbers r ls fs (map code_of ts) n) (Turned r ls fs ts)
