use Rattle.std.proofs.Common.{◌+◌, ◌<◌, ◌≤◌, get_or, Option, ℕ, sym, ap, ◌∙◌, subst, arith}
use Rattle.numbering.proofs.Chaining.{Past, after, past-none, past_one, past-le, past_all, past-alike}
use Rattle.numbering.proofs.chains.Chains.earliest_match.Goals as goal

pub loop-at-init : goal.loop-at-init
loop-at-init g c =
    let k = c.args.self.now in
    let e = c.requires.bucket in
    past-none (g.S.Source.reading c.args.subset.now.source.now) c.args.subset.now.lookups.items.now c.args.survivors.now c.args.v k c.requires.chains _ (subst (λ b. b < 239) e c.requires.below) (ap (λ b. get_or k.heads b _) e)

pub returns-then-is_alike : goal.returns-then-is_alike
returns-then-is_alike g c =
    let in' : c.in-Some.p < c.args.v = omega (arith, ap after c.in-Some.is, c.loop-at.invariant.0) in
    c.requires.known c.in-Some.p in'
    ∙ past-alike (g.S.Source.reading c.args.subset.now.source.now) c.args.subset.now.lookups.items.now c.args.survivors.now c.args.v c.in-Some.p in' (omega arith) (sym c.is_alike.ensures ∙ c.if-is_alike.true)

pub loop-at-smaller : goal.loop-at-smaller
loop-at-smaller g c =
    let in' : c.in-Some.p + 1 ≤ c.args.v = omega (arith, ap after c.in-Some.is, c.loop-at.invariant.0) in
    omega (arith, ap after c.in-Some.is, past-le (g.S.Source.reading c.args.subset.now.source.now) c.args.subset.now.lookups.items.now c.args.survivors.now c.args.v c.args.self.now c.requires.chains c.in-Some.p in')

pub loop-at-preserved : goal.loop-at-preserved
loop-at-preserved g c =
    let r = g.S.Source.reading c.args.subset.now.source.now in
    let ls = c.args.subset.now.lookups.items.now in
    let vs = c.args.survivors.now in
    let here = subst (λ (o : Option ℕ). Past r ls vs c.args.v (after o)) c.in-Some.is c.loop-at.invariant in
    past_one r ls vs c.args.v c.args.self.now c.requires.chains c.in-Some.p here (sym c.is_alike.ensures ∙ c.if-is_alike.false)

pub returns : goal.returns
returns g c =
    let none : after c.loop-at.at ≤ 0 = omega (arith, ap after c.in_default.is) in
    past_all (g.S.Source.reading c.args.subset.now.source.now) c.args.subset.now.lookups.items.now c.args.survivors.now c.args.v (after c.loop-at.at) (omega arith) none c.loop-at.invariant
