-- The laws hold of every numbering.
use Rattle.std.proofs.Common.{◌≡◌, ℕ, true, List, map, length, sym, ◌∙◌}
use Rattle.std.proofs.lemmas.Bool.{and_parts}
use Rattle.source.specs.Reading.{Reading}
use Rattle.numbering.specs.Numbering.{the_matched, first_alike, match_of, the_walk, the_retained, Laws}
use Rattle.numbering.specs.Numbers.{number, owners}
use Rattle.numbering.specs.Sets.{Ascends, among}
use Rattle.numbering.specs.Stages.{survivors, alike}
use Rattle.numbering.specs.Systems.{is_named}
use Rattle.numbering.proofs.Earlier.{earliest_matches}
use Rattle.numbering.proofs.Numbered.{numbered}
use Rattle.numbering.proofs.Ordered.{pairs-ascend}
use Rattle.numbering.proofs.Retaining.{kept-ascends, among-kept, survivors-ascend, matched-ascends}

pub laws : (r : Reading) (ls fs ts : List ℕ) → Ascends fs → Laws r ls fs ts (the_retained r ls fs ts) (map (number (the_retained r ls fs ts) (first_alike r ls fs)) (the_retained r ls fs ts)) (length (owners (the_retained r ls fs ts) (first_alike r ls fs))) (the_walk r ls fs ts).pairs
laws r ls fs ts up =
    let ms = the_matched r ls fs in
    let rs = the_retained r ls fs ts in
    let named = is_named (the_walk r ls fs ts).collected in
    let ms-up : Ascends (the_matched r ls fs) = matched-ascends r (survivors r ls fs) (survivors-ascend r ls fs up) in
    let rs-up : Ascends (the_retained r ls fs ts) = kept-ascends named ms ms-up in
    record {
      once = rs-up;
      exactly = λ x. among-kept named ms x;
      numbered = numbered rs (first_alike r ls fs) (λ x y. alike r ls x y ≡ true) rs-up (earliest_matches r ls ms rs ms-up (λ x e. (and_parts (named x) (among ms x) (sym (among-kept named ms x) ∙ e)).1));
      pairs_once = pairs-ascend (match_of r ls fs) ts r;
    }
