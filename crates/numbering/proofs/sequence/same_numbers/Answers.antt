use Rattle.std.proofs.Common.{ap, ◌∙◌, get_or, ℕ, None, arith, rules}
use Rattle.std.proofs.lemmas.Iterator.{YieldsList-from_range}
use Rattle.std.proofs.lemmas.Iterator.Consumers.{YieldsList-from_filter_map}
use Rattle.std.specs.Iterator.Adapters.{filter_map_source, filter_map_callee}
use Rattle.std.specs.List.{filter_map, range_with_len}
use Rattle.numbering.specs.Sets.{somes, equal_lists}
use Rattle.numbering.proofs.Comparing.{equal_from, all-places}
use Rattle.numbering.proofs.sequence.same_numbers.Goals as goal

pub returns : goal.returns
returns g c =
    let xs = g.Q.Sequence.places c.args.a.now in
    let ys = g.Q.Sequence.places c.args.b.now in
    let theirs = filter_map (λ (k : ℕ). get_or ys k None) (range_with_len 0 c.count-2.result) in
    equal_from {ys = theirs} _ _ c.eq.ensures.ran
    (YieldsList-from_filter_map _ (λ (k : ℕ). get_or xs k None) (YieldsList-from_range 0 c.count.result c.count.result c.filter_map-ours.ensures.source (omega arith)) c.filter_map-ours.ensures.closure (λ x r q k. search rules))
    (λ it e. YieldsList-from_filter_map _ (λ (k : ℕ). get_or ys k None) (YieldsList-from_range 0 c.count-2.result c.count-2.result (ap filter_map_source e ∙ c.filter_map-theirs.ensures.source) (omega arith)) (ap filter_map_callee e ∙ c.filter_map-theirs.ensures.closure) (λ x r q k. search rules))
    ∙ (ap (λ l. equal_lists l theirs) (all-places xs c.count.result c.count.ensures) ∙ ap (equal_lists (somes xs)) (all-places ys c.count-2.result c.count-2.ensures))
