-- The stages from kept sets to matches, over a reading r and the kept lookups ls.
--   names_kept       a feature names a kept lookup
--   kept_lookups     a feature's lookups, unkept ones left out, in order
--   alternate        an alternate of the feature names a kept lookup, and every alternate can be read
--   judged           what becomes of a kept feature: whether it survives, or that it cannot be read
--   wanted           a feature that can be read survives: `size` with parameters, a kept lookup, or an alternate's
--   survivors        the kept features that survive, up to the first that cannot be read
--   alike            tags and kept lookups are equal
--   matched          the survivors up to the first that cannot be read
--   earliest_of      the earliest match of each matched survivor
--   earliest         the first of some features that is alike
use Rattle.std.specs.Prelude.{ℕ, Bool, true, false, cond, not, ◌&&◌, ◌||◌, List, [], ◌∷◌, map, filter, ◌==◌}
use Rattle.source.specs.declared.parts.Standing.{Standing}
use Rattle.source.specs.declared.parts.Standing.TheVariants.{Absent, Unreadable, There}
use Rattle.source.specs.declared.parts.FeaturePlace.{FeaturePlace}
use Rattle.source.specs.declared.parts.FeaturePlace.TheVariants.{Listed}
use Rattle.source.specs.Standings.{unreadable}
use Rattle.source.specs.Reading.{SubstitutionRecord, VariationRecord, Reading}
use Rattle.source.specs.Questions.{feature_record, feature, lookups_of, params_of, variation_records, substitution_records}
use Rattle.numbering.specs.Sets.{among, any, equal_lists}

abbrev pub names_kept : Reading → List ℕ → FeaturePlace → Bool
names_kept r ls at = any (among ls) (lookups_of (feature r at))

abbrev pub kept_lookups : Reading → List ℕ → ℕ → List ℕ
kept_lookups r ls i = filter (among ls) (lookups_of (feature r (Listed i)))

-- alternates

abbrev pub is_unreadable : {X : Type 0} → Standing X → Bool
is_unreadable s = unreadable s

abbrev pub unread_substitution : VariationRecord → Bool
unread_substitution v = is_unreadable v.substitution || any (λ s. is_unreadable s.alternate) (substitution_records v.substitution)

abbrev pub names_alternate : List ℕ → ℕ → SubstitutionRecord → Bool
names_alternate ls i s = s.index == i && any (among ls) (lookups_of s.alternate)

abbrev pub alternates_unread : Reading → Bool
alternates_unread r = any unread_substitution (variation_records r.variations)

abbrev pub alternate_kept : Reading → List ℕ → ℕ → Bool
alternate_kept r ls i = any (λ v. any (names_alternate ls i) (substitution_records v.substitution)) (variation_records r.variations)

abbrev pub alternate : Reading → List ℕ → ℕ → Bool
alternate r ls i = not (alternates_unread r) && alternate_kept r ls i

-- survivors

abbrev pub is_absent : {X : Type 0} → Standing X → Bool
is_absent Absent = true
is_absent Unreadable = false
is_absent (There x) = false

-- `size` with parameters survives without lookups
abbrev pub sized : Reading → ℕ → Bool
sized r i = (feature_record r i).tag == 0x73697A65 && not (is_absent (params_of (feature r (Listed i))))

abbrev pub wanted : Reading → List ℕ → ℕ → Bool
wanted r ls i = sized r i || (names_kept r ls (Listed i) || alternate r ls i)

-- `pref` survives unread
abbrev pub judged_by : {X : Type 0} → Bool → Bool → Standing X → Standing Bool
judged_by is-pref keep Absent = There false
judged_by is-pref keep Unreadable = cond is-pref (There true) Unreadable
judged_by is-pref keep (There t) = There (is-pref || keep)

abbrev pub judged : Reading → List ℕ → ℕ → Standing Bool
judged r ls i = judged_by ((feature_record r i).tag == 0x70726566) (wanted r ls i) (feature r (Listed i))

abbrev pub surviving : ℕ → Standing Bool → List ℕ → List ℕ
surviving i Absent rest = []
surviving i Unreadable rest = []
surviving i (There b) rest = cond b (i ∷ rest) rest

abbrev pub survivors : Reading → List ℕ → List ℕ → List ℕ
survivors r ls [] = []
survivors r ls (i ∷ is) = surviving i (judged r ls i) (survivors r ls is)

-- matches

abbrev pub alike : Reading → List ℕ → ℕ → ℕ → Bool
alike r ls j i = (feature_record r j).tag == (feature_record r i).tag && equal_lists (kept_lookups r ls j) (kept_lookups r ls i)

abbrev pub front : {X : Type 0} → Standing X → ℕ → List ℕ → List ℕ
front Absent i rest = []
front Unreadable i rest = []
front (There t) i rest = i ∷ rest

abbrev pub matched : Reading → List ℕ → List ℕ
matched r [] = []
matched r (i ∷ is) = front (feature r (Listed i)) i (matched r is)

abbrev pub earliest : Reading → List ℕ → List ℕ → ℕ → ℕ
earliest r ls [] i = i
earliest r ls (j ∷ js) i = cond (alike r ls j i) j (earliest r ls js i)

abbrev pub earliest_of : Reading → List ℕ → List ℕ → List ℕ
earliest_of r ls vs = map (earliest r ls (matched r vs)) (matched r vs)
