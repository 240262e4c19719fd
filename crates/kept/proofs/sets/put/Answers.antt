use Rattle.std.proofs.Common.{rules}
use Rattle.kept.proofs.Puts.{put-known, put-ascending, put-joined}
use Rattle.kept.proofs.sets.put.Goals as goal

pub returns-in-Ok : goal.returns-in-Ok
returns-in-Ok g c =
    record { ascending = λ up. up; joined = put-known g.met.K.Key.laws _ _ c.args.key _ c.as_slice.ensures.value c.in-Ok.ensures.found }

pub returns-in_ok-insert-in-Err : goal.returns-in_ok-insert-in-Err
returns-in_ok-insert-in-Err g c =
    record {
      ascending = put-ascending g.met.K.Key.laws _ _ c.args.key _ c.as_slice.ensures.value _ c.insert.result _ c.in_ok-insert-in-Err.was (search rules) c.in-Err.ensures.found c.in-Err.ensures.placed;
      joined = put-joined g.met.K.Key.laws _ _ c.args.key _ c.as_slice.ensures.value _ c.insert.result _ c.in_ok-insert-in-Err.was (search rules) c.in-Err.ensures.found;
    }
