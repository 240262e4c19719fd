use Rattle.std.proofs.Common.{eqb, ◌∙◌}
use Rattle.source.specs.Questions.{lang_sys_of, indices_of}
use Rattle.numbering.specs.Sets.{lookup_beside}
use Rattle.numbering.proofs.Somes.{place-none, place-some}
use Rattle.numbering.proofs.equals.MatchedIndicesSequence.number_at.Goals as goal

pub returns-in_err-index : goal.returns-in_err-index
returns-in_err-index g c =
    let q = c.args.self.now in
    let xs = indices_of (lang_sys_of (g.S.Source.reading q.source.now) q.at) in
    rw c.from_residual.ensures (place-none (lookup_beside eqb q.matches.matched.now q.matches.earliest.now) xs c.args.k c.in_err-index.ensures)

pub returns : goal.returns
returns g c =
    let q = c.args.self.now in
    let xs = indices_of (lang_sys_of (g.S.Source.reading q.source.now) q.at) in
    c.earliest_of.ensures ∙ place-some (lookup_beside eqb q.matches.matched.now q.matches.earliest.now) xs c.args.k c.in_ok-index.index c.in_ok-index.ensures
