use Rattle.std.proofs.Common.{◌≡◌, ◌-◌, length, arith}
use Rattle.numbering.proofs.Ranks.{place-le}
use Rattle.numbering.proofs.Remapping.{ascends-take, turn-shared, turn-own, all-numbers}
use Rattle.numbering.proofs.remap.remap_feature_indices.Goals as goal
use Rattle.numbering.proofs.remap.remap_feature_indices.Goals.{in-Some, in-None}

pub overflow_cast-numbers : goal.overflow_cast-numbers
overflow_cast-numbers c = omega (arith, c.type_inv.retained c.loop-k.k, place-le c.args.retained.now c.requires.ascends c.loop-k.k c.loop-k-test.true)

pub loop-k-preserved : goal.loop-k-preserved
loop-k-preserved c =
    let rs = c.args.retained.now in
    let es = c.args.earliest.now in
    let old = c.args.numbers.now in
    let ns = c.loop-k.numbers in
    let k = c.loop-k.k in
    let own = c.loop-k.own in
    let up = ascends-take rs c.requires.ascends (c.loop-k.k - 0) (omega arith) in
    elim c.match-place_in.branch [
      | in-Some w ↦ rw (w.numbers-is, w.own-is) (turn-shared rs es old ns k own c.requires.ascends c.loop-k-test.true (omega arith) c.loop-k.invariant w.in-Some.q (w.in-Some.ensures up))
      | in-None w ↦ rw (w.numbers-is, w.own-is) (turn-own rs es old ns k own c.requires.ascends c.loop-k-test.true (omega arith) c.loop-k.invariant (w.in-None.ensures up))
    ]

pub returns-clause-list : goal.returns-clause-list
returns-clause-list c =
    let all : c.loop-k.k ≡ length c.args.retained.now = omega arith in
    λ f e s. all-numbers c.args.retained.now f c.loop-k.k c.loop-k.numbers c.loop-k.own (c.loop-k.invariant.2 f e s) all (omega arith)
