use Rattle.std.proofs.Common.{◌≡◌, ◌<◌, map, length, take, sym, ap, ◌∙◌, subst}
use Rattle.std.proofs.lemmas.List.{length-map}
use Rattle.std.proofs.lemmas.Result.{err_from_is_err_and}
use Rattle.source.specs.declared.refusals.Refusal.TheVariants.{TooManyPairs}
use Rattle.numbering.specs.Systems.{code_of}
use Rattle.numbering.specs.Context.{Walked, chosen}
use Rattle.numbering.specs.Numbers.{Settled, number, owners}
use Rattle.numbering.specs.Sets.{Ascends}
use Rattle.numbering.specs.Numbering.{first_alike, the_retained}
use Rattle.numbering.proofs.Whole.{settled-earliest, lent_pairs, whole_walk, retained-up, retained-settled, targets, whole-numbering}
use Rattle.numbering.proofs.number.number_kept.Goals as goal

pub invariant_of-walk : goal.invariant_of-walk
invariant_of-walk g c =
    let r = g.S.Source.reading c.args.source.now in
    let kept = c.args.sets.now.kept in
    let found = c.find_duplicates-matched.ensures in
    record { paired = lent_pairs r _ _ _ _ _ _ kept.features kept.few_features c.prune_features-survived.ensures.list found.count found.front found.list }

pub returns-in_err-count-clause-answered : goal.returns-in_err-count-clause-answered
returns-in_err-count-clause-answered g c =
    let r = g.S.Source.reading c.args.source.now in
    let kept = c.args.sets.now.kept in
    let found = c.find_duplicates-matched.ensures in
    let full = whole_walk r _ _ _ _ _ _ kept.features kept.few_features c.prune_features-survived.ensures.list found.count found.front found.list (map code_of c.args.sets.now.scripts.now) _ c.new-context.ensures (λ _ w. (c.in_err-count.field-0.0 ≡ TooManyPairs) × (2048 < length w.pairs)) c.in_err-count.ensures.pruned in
    let p = err_from_is_err_and c.from_residual.result c.from_residual.ensures.1 in
    rw (p.1, p.2) full

pub remap_feature_indices-own-requires-clause-ascends : goal.remap_feature_indices-own-requires-clause-ascends
remap_feature_indices-own-requires-clause-ascends g c =
    let r = g.S.Source.reading c.args.source.now in
    let kept = c.args.sets.now.kept in
    let found = c.find_duplicates-matched.ensures in
    let ts = map code_of c.args.sets.now.scripts.now in
    let walked = whole_walk r _ _ _ _ _ _ kept.features kept.few_features c.prune_features-survived.ensures.list found.count found.front found.list ts _ c.new-context.ensures (λ ms w. Walked ms w c.prune_langsys.new.self c.prune_langsys.new.out c.in_ok-count.count) c.in_ok-count.ensures.pruned in
    subst Ascends (sym walked.2) (retained-up r _ _ kept.features kept.few_features ts)

pub returns-clause-few : goal.returns-clause-few
returns-clause-few g c =
    let r = g.S.Source.reading c.args.source.now in
    let kept = c.args.sets.now.kept in
    let found = c.find_duplicates-matched.ensures in
    let walked = whole_walk r _ _ _ _ _ _ kept.features kept.few_features c.prune_features-survived.ensures.list found.count found.front found.list (map code_of c.args.sets.now.scripts.now) _ c.new-context.ensures (λ ms w. Walked ms w c.prune_langsys.new.self c.prune_langsys.new.out c.in_ok-count.count) c.in_ok-count.ensures.pruned in
    walked.0.filled

pub returns-clause-answered : goal.returns-clause-answered
returns-clause-answered g c =
    let r = g.S.Source.reading c.args.source.now in
    let ls = c.args.sets.now.lookups.now in
    let fs = c.args.sets.now.features.now in
    let ts = map code_of c.args.sets.now.scripts.now in
    let kept = c.args.sets.now.kept in
    let found = c.find_duplicates-matched.ensures in
    let self = c.prune_langsys.new.self in
    let out = c.prune_langsys.new.out in
    let count = c.in_ok-count.count in
    let walked = whole_walk r ls fs _ _ _ _ kept.features kept.few_features c.prune_features-survived.ensures.list found.count found.front found.list ts _ c.new-context.ensures (λ ms w. Walked ms w self out count) c.in_ok-count.ensures.pruned in
    let rs = the_retained r ls fs ts in
    let f = first_alike r ls fs in
    let same = walked.2 in
    let size : length (take c.in_ok-count.count c.prune_langsys.new.out) ≡ c.in_ok-count.count = ap length same ∙ sym walked.1 in
    let tg = c.choose.new.out in
    let settled = settled-earliest r ls fs _ _ _ _ kept.features kept.few_features c.prune_features-survived.ensures.list found.count found.front found.list in
    let chose = ap (chosen self.named) settled ∙ targets r ls fs kept.features kept.few_features ts self walked.0 in
    let many = c.choose.ensures.count ∙ (ap length chose ∙ length-map rs f) in
    let lent = subst (λ xs. take (length xs) tg ≡ map f xs) (sym same) (ap (λ n. take n tg) (sym many) ∙ (c.choose.ensures.list ∙ chose)) in
    let fixed = subst (λ xs. Settled xs f) (sym same) (retained-settled r ls fs kept.features kept.few_features ts) in
    whole-numbering r ls fs kept.features kept.few_features ts _ (c.front.ensures ∙ c.prune_features-survived.ensures.list) (c.front-2.ensures ∙ settled) (c.front-3.ensures ∙ same)
    (c.front-4.ensures ∙ (ap (λ n. take n c.remap_feature_indices-own.new.numbers) (sym size) ∙ (c.remap_feature_indices-own.ensures.list f lent fixed ∙ ap (λ xs. map (number xs f) xs) same)))
    (c.remap_feature_indices-own.ensures.count f lent fixed ∙ ap (λ xs. length (owners xs f)) same)
    walked.0.pairs
