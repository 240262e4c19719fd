use Rattle.std.proofs.Common.{◌≡◌, length, take, sym, ap, ◌∙◌, arith}
use Rattle.source.specs.Standings.{mapped}
use Rattle.source.specs.Reading.{FeatureTable}
use Rattle.numbering.proofs.Matching.{matched-ends, matched-all, all-earliest}
use Rattle.numbering.proofs.subset.Subset.find_duplicates.Goals as goal

pub returns-in_default : goal.returns-in_default
returns-in_default g c =
    let r = g.S.Source.reading c.args.self.now.source.now in
    let vs = c.args.survivors.now in
    let ends = matched-ends r vs c.loop-v.v c.loop-v-test.true (λ t e. c.in_default.not-There (length t.lookups) (c.feature.ensures ∙ ap (mapped (λ (x : FeatureTable). length x.lookups)) e)) c.loop-v.invariant.0 in
    record {
      count = omega arith;
      front = ends;
      list = all-earliest r c.args.self.now.lookups.items.now vs c.loop-v.out c.loop-v.v (omega arith) (omega arith) ends c.loop-v.invariant.1;
    }

pub returns-clause-list : goal.returns-clause-list
returns-clause-list g c =
    let r = g.S.Source.reading c.args.self.now.source.now in
    let vs = c.args.survivors.now in
    let all : c.loop-v.v ≡ length vs = omega arith in
    let ends = matched-all r vs c.loop-v.v (omega arith) c.loop-v.invariant.0 in
    sym (ap (λ n. take n c.loop-v.out) all) ∙ all-earliest r c.args.self.now.lookups.items.now vs c.loop-v.out c.loop-v.v (omega arith) (omega arith) ends c.loop-v.invariant.1
