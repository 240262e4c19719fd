use Rattle.std.proofs.lemmas.Result.{MatchResult-from_err}
use Rattle.sink.proofs.Growing.{level-is, dropped, rooted, full_back}
use Rattle.sink.proofs.tree.pack_root.Goals as goal

pub returns-in_err-number-in-Ok : goal.returns-in_err-number-in-Ok
returns-in_err-number-in-Ok c = λ sound.
    let w = c.args.work.now in
    let s = c.args.tables.now in
    let k = c.args.counts.now in
    let p = c.in_ok-token.ensures.pushed w sound in
    let g = c.fill_root.ensures p.sound in
    let l = level-is w _ s _ _ k _ _ c.in_ok-token.token sound p g.sound g.depth g.kept in
    MatchResult-from_err _ _ _ c.from_residual-in_err-number-in-Ok.ensures.0 (λ _. full_back w _ s _ _ k _ _ c.in_ok-token.token sound p g.sound g.depth g.kept _ _ _ _ (c.in_err-number-in-Ok.ensures.packed g.sound l))

pub returns-in_ok-number-in-Ok : goal.returns-in_ok-number-in-Ok
returns-in_ok-number-in-Ok c = λ sound.
    let w = c.args.work.now in
    let s = c.args.tables.now in
    let k = c.args.counts.now in
    let p = c.in_ok-token.ensures.pushed w sound in
    let g = c.fill_root.ensures p.sound in
    let l = level-is w _ s _ _ k _ _ c.in_ok-token.token sound p g.sound g.depth g.kept in
    rooted w _ s _ _ k _ _ c.in_ok-token.token sound p g.sound g.depth g.kept _ _ _ _ (c.in_ok-number-in-Ok.ensures.packed g.sound l)

pub returns-in-Err : goal.returns-in-Err
returns-in-Err c = λ sound.
    let w = c.args.work.now in
    let s = c.args.tables.now in
    let k = c.args.counts.now in
    let p = c.in_ok-token.ensures.pushed w sound in
    let g = c.fill_root.ensures p.sound in
    let l = level-is w _ s _ _ k _ _ c.in_ok-token.token sound p g.sound g.depth g.kept in
    dropped w _ s _ _ k _ _ c.in_ok-token.token sound p g.sound g.depth g.kept _ (c.pop_discard.ensures.discarded _ g.sound l)
