-- The stages together.
use Rattle.std.proofs.Common.{◌≡◌, ℕ, ◌<◌, ◌≤◌, nat_eq, List, map, length, take, sym, ap, ◌∙◌, subst, arith}
use Rattle.std.proofs.lemmas.List.{length-map, length-take, take-take}
use Rattle.std.proofs.lemmas.Bool.{and_parts}
use Rattle.keys.specs.declared.tags.Tag.{Tag}
use Rattle.source.specs.Reading.{Reading}
use Rattle.source.specs.declared.refusals.Refusal.{Refusal}
use Rattle.source.specs.declared.refusals.Refusal.TheVariants.{TooManyPairs}
use Rattle.numbering.specs.declared.systems.PruneLangSysContext.{PruneLangSysContext}
use Rattle.source.specs.Standings.{listed}
use Rattle.numbering.specs.Sets.{Ascends, among, lookup_beside}
use Rattle.numbering.specs.Stages.{survivors, matched, earliest_of}
use Rattle.numbering.specs.Systems.{Walk, no_walk, walk_scripts, code_of, is_named, retained}
use Rattle.numbering.specs.Context.{Paired, Agrees, chosen}
use Rattle.numbering.specs.Numbers.{Settled, number, owners}
use Rattle.numbering.specs.Numbering.{held, held_pairs, the_matched, first_alike, the_walk, the_retained, Laws, Numbers, Kept, Turned}
use Rattle.numbering.specs.declared.number.Numbering.{Numbering}
use Rattle.numbering.specs.declared.number.Unnumbered.TheVariants.{Refused}
use Rattle.numbering.proofs.Earlier.{earliest-settled}
use Rattle.numbering.proofs.Lawful.{laws as laws-of}
use Rattle.numbering.proofs.Retaining.{survivors-ascend, matched-ascends, few-survivors, few-matched, kept-ascends, among-kept, chosen-kept, chosen-map}

-- the numbers with a flag, where the flags are those of a walk
pub chosen-retained : (ms : List ℕ) (c : PruneLangSysContext) (w : Walk) → Agrees ms c w → chosen c.named ms ≡ retained ms w
chosen-retained ms c w a = chosen-kept c.named (is_named w.collected) ms a.flags a.named

module _ (r : Reading) (ls fs : List ℕ) where
  module _ (up : Ascends fs) (few : length fs ≤ 512) where
    matched-up : Ascends (the_matched r ls fs)
    matched-up = matched-ascends r (survivors r ls fs) (survivors-ascend r ls fs up)

    pub matched-few : length (the_matched r ls fs) ≤ 512
    matched-few = omega (arith, few, few-survivors r ls fs, few-matched r (survivors r ls fs))

    pub paired : Paired (the_matched r ls fs) (earliest_of r ls (survivors r ls fs))
    paired = record { ascending = matched-up; few = matched-few; aligned = sym (length-map (the_matched r ls fs) (first_alike r ls fs)) }

    module _ (ts : List ℕ) where
      pub retained-up : Ascends (the_retained r ls fs ts)
      retained-up = kept-ascends (is_named (the_walk r ls fs ts).collected) (the_matched r ls fs) matched-up

      pub retained-settled : Settled (the_retained r ls fs ts) (first_alike r ls fs)
      retained-settled x h =
          earliest-settled r ls (the_matched r ls fs) x (and_parts (is_named (the_walk r ls fs ts).collected x) (among (the_matched r ls fs) x) (sym (among-kept (is_named (the_walk r ls fs ts).collected) (the_matched r ls fs) x) ∙ h)).1

      pub targets : (c : PruneLangSysContext) → Agrees (the_matched r ls fs) c (the_walk r ls fs ts) → chosen c.named (earliest_of r ls (survivors r ls fs)) ≡ map (first_alike r ls fs) (the_retained r ls fs ts)
      targets c a =
          chosen-map c.named (first_alike r ls fs) (the_matched r ls fs)
          ∙ ap (map (first_alike r ls fs)) (chosen-retained (the_matched r ls fs) c (the_walk r ls fs ts) a)

      -- the filled tables of a numbering are the defined lists, so the laws hold of them
      pub whole-numbering : (n : Numbering) → held n.survivors ≡ survivors r ls fs → held n.earliest ≡ earliest_of r ls (survivors r ls fs) → held n.retained ≡ the_retained r ls fs ts → held n.numbers ≡ map (number (the_retained r ls fs ts) (first_alike r ls fs)) (the_retained r ls fs ts) → n.own ≡ length (owners (the_retained r ls fs ts) (first_alike r ls fs)) → held_pairs n.pairs ≡ (the_walk r ls fs ts).pairs → Numbers r ls fs ts n
      whole-numbering n s e t m o p = record {
        surviving = s;
        matching = e;
        retaining = t;
        numbering = m;
        owned = o;
        paired = p;
        laws =
            subst (λ x. Laws r ls fs ts x (held n.numbers) n.own (held_pairs n.pairs)) (sym t)
            (subst (λ x. Laws r ls fs ts (the_retained r ls fs ts) x n.own (held_pairs n.pairs)) (sym m)
            (subst (λ x. Laws r ls fs ts (the_retained r ls fs ts) (map (number (the_retained r ls fs ts) (first_alike r ls fs)) (the_retained r ls fs ts)) x (held_pairs n.pairs)) (sym o)
            (subst (Laws r ls fs ts (the_retained r ls fs ts) (map (number (the_retained r ls fs ts) (first_alike r ls fs)) (the_retained r ls fs ts)) (length (owners (the_retained r ls fs ts) (first_alike r ls fs)))) (sym p) (laws-of r ls fs ts up))));
      }

-- From what the first stages promise: the survivors A, their earliest matches B, and a fresh context c.
module _ (r : Reading) (ls fs A B : List ℕ) (k j : ℕ) (up : Ascends fs) (few : length fs ≤ 512) (survived : take k A ≡ survivors r ls fs)
    (within : j ≤ length (take k A)) (front : take j (take k A) ≡ matched r (take k A))
    (earliest : take j B ≡ earliest_of r ls (take k A)) where
  settled-matched : take j A ≡ the_matched r ls fs
  settled-matched = sym (take-take j k A (omega (arith, within, length-take k A))) ∙ (front ∙ ap (matched r) survived)

  pub settled-earliest : take j B ≡ earliest_of r ls (survivors r ls fs)
  settled-earliest = earliest ∙ ap (earliest_of r ls) survived

  pub lent_pairs : Paired (take j A) (take j B)
  lent_pairs = subst (λ ms. Paired ms (take j B)) (sym settled-matched) (subst (Paired (the_matched r ls fs)) (sym settled-earliest) (paired r ls fs up few))

  module _ (ts : List ℕ) (c : PruneLangSysContext) (fresh : (ms : List ℕ) → length ms ≤ 512 → Agrees ms c no_walk) where
    -- the walk over what is lent is the whole walk
    pub whole_walk : (P : List ℕ → Walk → Type 0)
        → ((w : Walk) → Agrees (take j A) c w → P (take j A) (walk_scripts (lookup_beside nat_eq (take j A) (take j B)) ts 0 (listed r.scripts) w))
        → P (the_matched r ls fs) (the_walk r ls fs ts)
    whole_walk P x =
        subst (λ es. P (the_matched r ls fs) (walk_scripts (lookup_beside nat_eq (the_matched r ls fs) es) ts 0 (listed r.scripts) no_walk)) settled-earliest
        (subst (λ ms. P ms (walk_scripts (lookup_beside nat_eq ms (take j B)) ts 0 (listed r.scripts) no_walk)) settled-matched
        (x no_walk (subst (λ ms. Agrees ms c no_walk) (sym settled-matched) (fresh (the_matched r ls fs) (matched-few r ls fs up few)))))

-- what is said of the sets that were tested is said of the lists that they were made of
module _ (r : Reading) {ls ls' fs fs' : List ℕ} {ts ts' : List Tag} (le : ls ≡ ls') (fe : fs ≡ fs') (te : ts ≡ ts') where
  of-lists : (P : List ℕ → List ℕ → List Tag → Type 0) → P ls fs ts → P ls' fs' ts'
  of-lists P x = subst (P ls' fs') te (subst (λ f. P ls' f ts) fe (subst (λ l. P l fs ts) le x))

  pub is-numbered : (n : Numbering) → Kept ls fs ts → length (held_pairs n.pairs) ≤ 2048 → Numbers r ls fs (map code_of ts) n → Kept ls' fs' ts' × (length (the_walk r ls' fs' (map code_of ts')).pairs ≤ 2048) × Numbers r ls' fs' (map code_of ts') n
  is-numbered n k few m =
      of-lists (λ l f t. Kept l f t × (length (the_walk r l f (map code_of t)).pairs ≤ 2048) × Numbers r l f (map code_of t) n) (k, omega (arith, few, ap length m.paired), m)

  pub is-refused : (f : Refusal) → Kept ls fs ts → (f ≡ TooManyPairs) × (2048 < length (the_walk r ls fs (map code_of ts)).pairs) → Turned r ls' fs' ts' (Refused f)
  is-refused f k m = of-lists (λ l g t. Turned r l g t (Refused f)) (k, m.0, m.1)
