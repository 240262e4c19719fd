use Rattle.std.proofs.Common.{inl, rules}
use Rattle.keys.proofs.Inserts.{known, refused, taken}
use Rattle.keys.proofs.slots.insert.Goals as goal

pub returns-in-Ok : goal.returns-in-Ok
returns-in-Ok g c =
    let r = known g.met.K.Key.laws c.args.len c.min-end.result c.args.slots.now c.args.key c.min-end.ensures _ c.in-Ok.ensures.found in
    record { inserted = inl r.0; ascending = r.1; joined = r.2 }

pub returns-then-end-slots : goal.returns-then-end-slots
returns-then-end-slots g c =
    let r = refused g.met.K.Key.laws c.args.len c.min-end.result c.args.slots.now c.args.key c.min-end.ensures _ c.in-Err.ensures.placed c.if-end-slots.true in
    record { inserted = r.0; ascending = r.1; joined = tt }

pub returns-else-end-slots : goal.returns-else-end-slots
returns-else-end-slots g c =
    let r = taken g.met.K.Key.laws c.args.len c.min-end.result c.args.slots.now c.args.key c.min-end.ensures _ c.in-Err.ensures.placed c.put.new.slots c.in-Err.ensures.found c.if-end-slots.false (search rules) in
    let slots = r.0 in let up = r.1 in let all = r.2 in
    record { inserted = search rules; ascending = search rules; joined = search rules }
