use Rattle.std.proofs.Common.{sym, subst}
use Rattle.serialize.specs.declared.tables.Counts.{Counts}
use Rattle.sink.specs.Steps.{Grown}
use Rattle.std.proofs.lemmas.Result.{MatchResult-from_err}
use Rattle.sink.proofs.Growing.{grown-trans, grown-embeds, grown-offsets, grown-back, back_from}
use Rattle.sink.proofs.tree.add_record.Goals as goal

pub returns-in_err-add_offset : goal.returns-in_err-add_offset
returns-in_err-add_offset c = λ sound.
    let e = c.in_ok-embed.ensures.embedded sound in
    let b = (c.in_err-add_offset.ensures.added e.sound).0 in
    MatchResult-from_err _ _ _ c.from_residual-in_err-add_offset.ensures.0 (λ _. back_from _ _ _ _ _ _ _ sound (grown-trans _ _ _ _ _ _ _ _ _ (grown-embeds _ _ _ _ _ _ e) (grown-back _ _ _ _ _ _ b)) c.drop-mark-in_err-add_offset.ensures)

pub returns : goal.returns
returns c = λ sound.
    let e = c.in_ok-embed.ensures.embedded sound in
    let o = (c.in_ok-add_offset.ensures.added e.sound).0 in
    let P : Counts → Type 0 = λ d. Grown c.args.work.now c.add_offset.new.work c.args.tables.now c.add_offset.new.self c.args.counts.now d in
    subst P (sym c.drop-mark-2.ensures) (grown-trans _ _ _ _ _ _ _ _ _ (grown-embeds _ _ _ _ _ _ e) (grown-offsets _ _ _ _ _ _ _ _ o))
