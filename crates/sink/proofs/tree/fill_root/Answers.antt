use Rattle.sink.proofs.Growing.{grown-same, grown-trans, grown-embeds, grown-offsets, grown-back}
use Rattle.sink.proofs.tree.fill_root.Goals as goal

pub returns-in_err-embed : goal.returns-in_err-embed
returns-in_err-embed c = λ sound.
    let a = c.in_ok-add_record.ensures sound in
    let b = c.try_record-refused.ensures a.sound in
    let e = c.in_err-embed.ensures.embedded b.sound in
    grown-trans _ _ _ _ _ _ _ _ _ (grown-trans _ _ _ _ _ _ _ _ _ a b) (grown-same _ _ _ _ _ b.sound e.2 e.3)

pub returns-in_err-add_offset : goal.returns-in_err-add_offset
returns-in_err-add_offset c = λ sound.
    let a = c.in_ok-add_record.ensures sound in
    let b = c.try_record-refused.ensures a.sound in
    let e = c.in_ok-embed.ensures.embedded b.sound in
    let o = (c.in_err-add_offset.ensures.added e.sound).0 in
    grown-trans _ _ _ _ _ _ _ _ _ (grown-trans _ _ _ _ _ _ _ _ _ (grown-trans _ _ _ _ _ _ _ _ _ a b) (grown-embeds _ _ _ _ _ _ e)) (grown-back _ _ _ _ _ _ o)

pub returns : goal.returns
returns c = λ sound.
    let a = c.in_ok-add_record.ensures sound in
    let b = c.try_record-refused.ensures a.sound in
    let e = c.in_ok-embed.ensures.embedded b.sound in
    let o = (c.in_ok-add_offset.ensures.added e.sound).0 in
    grown-trans _ _ _ _ _ _ _ _ _ (grown-trans _ _ _ _ _ _ _ _ _ (grown-trans _ _ _ _ _ _ _ _ _ a b) (grown-embeds _ _ _ _ _ _ e)) (grown-offsets _ _ _ _ _ _ _ _ o)
