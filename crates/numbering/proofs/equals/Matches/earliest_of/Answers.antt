use Rattle.std.proofs.Common.{sym}
use Rattle.numbering.proofs.Looking.{lookup-at, lookup-none}
use Rattle.numbering.proofs.equals.Matches.earliest_of.Goals as goal

pub returns-in_err-place : goal.returns-in_err-place
returns-in_err-place c =
    let q = c.args.self.now in
    rw c.from_residual.ensures (sym (lookup-none q.matched.now q.earliest.now c.args.index c.in_err-place.ensures))

pub returns : goal.returns
returns c =
    let q = c.args.self.now in
    let at = c.in_ok-place.ensures in
    sym (lookup-at q.matched.now q.earliest.now c.in_ok-place.place c.args.index q.paired.ascending q.paired.aligned at.0 at.1)
