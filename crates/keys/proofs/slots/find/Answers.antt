use Rattle.std.proofs.Common.{◌+◌, ◌-◌, ◌/◌, arith, rules}
use Rattle.keys.proofs.Searches.{at_read, narrowed-less, narrowed-greater, sides, only, missing}
use Rattle.keys.proofs.slots.find.Goals as goal

pub loop-low-preserved-in-Less : goal.loop-low-preserved-in-Less
loop-low-preserved-in-Less g c =
    let k = g.K.Key in let xs = c.args.keys.now in let x = c.args.key in
    narrowed-less g.met.K.Key.laws xs x _ _ _ c.loop-low.invariant (omega arith) (at_read (λ y. k.before y x) xs _ c.index-keys-mid.result (omega arith) c.index-keys-mid.is (search rules))

pub returns-in-Equal : goal.returns-in-Equal
returns-in-Equal g c =
    let k = g.K.Key in let xs = c.args.keys.now in let x = c.args.key in
    let at = at_read (λ y. k.same y x) xs (c.loop-low.low + (c.loop-low.high - c.loop-low.low) / 2) c.index-keys-mid.result (omega arith) c.index-keys-mid.is (search rules) in
    record { found = at; placed = λ up. only g.met.K.Key.laws xs x up _ at }

pub loop-low-preserved : goal.loop-low-preserved
loop-low-preserved g c =
    let k = g.K.Key in let xs = c.args.keys.now in let x = c.args.key in
    narrowed-greater g.met.K.Key.laws xs x _ _ _ c.loop-low.invariant (omega arith) (at_read (λ y. k.before x y) xs _ c.index-keys-mid.result (omega arith) c.index-keys-mid.is (search rules))

pub returns : goal.returns
returns g c =
    let xs = c.args.keys.now in let x = c.args.key in let n = c.loop-low.invariant in
    record {
      found = omega arith;
      placed = λ up. let b = sides up _ _ n c.loop-low-test.false in (missing g.met.K.Key.laws xs x up _ b, b);
    }
