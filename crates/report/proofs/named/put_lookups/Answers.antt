use Rattle.report.proofs.named.put_lookups.Goals as goal
use Rattle.report.proofs.named.put_lookups.Goals.{in-Some+in_ok-put, in_default}

pub returns-in_err-put : goal.returns-in_err-put
returns-in_err-put g c = λ up. c.put.ensures.ascending (c.loop-k.invariant up)

pub loop-k-preserved : goal.loop-k-preserved
loop-k-preserved g c =
    elim c.match-lookup.branch [
      | in-Some+in_ok-put w ↦ rw w.set-is (λ up. w.put.ensures.ascending (c.loop-k.invariant up))
      | in_default w ↦ rw w.set-is c.loop-k.invariant
    ]
