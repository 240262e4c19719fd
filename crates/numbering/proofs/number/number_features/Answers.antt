use Rattle.std.proofs.lemmas.Result.{err_from_is_err_and}
use Rattle.numbering.proofs.Whole.{is-numbered, is-refused}
use Rattle.numbering.proofs.number.number_features.Goals as goal

pub returns-in_err-number_kept : goal.returns-in_err-number_kept
returns-in_err-number_kept g c =
    let e = c.in_ok-sets.ensures in
    let p = err_from_is_err_and c.from_residual-in_err-number_kept.result c.from_residual-in_err-number_kept.ensures.1 in
    rw (p.1, p.2) (is-refused (g.S.Source.reading c.args.source.now) e.0 e.1 e.2 _ c.in_ok-sets.sets.kept c.in_err-number_kept.ensures.answered)

pub returns : goal.returns
returns g c =
    let e = c.in_ok-sets.ensures in
    is-numbered (g.S.Source.reading c.args.source.now) e.0 e.1 e.2 c.in_ok-number_kept.field-0 c.in_ok-sets.sets.kept c.in_ok-number_kept.ensures.few c.in_ok-number_kept.ensures.answered
