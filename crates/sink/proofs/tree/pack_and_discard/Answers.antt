use Rattle.sink.proofs.Growing.{copied-kept, level-is, dropped}
use Rattle.sink.proofs.tree.pack_and_discard.Goals as goal

pub returns : goal.returns
returns c = λ sound.
    let w = c.args.work.now in
    let s = c.args.tables.now in
    let k = c.args.counts.now in
    let p = c.in_ok-token.ensures.pushed w sound in
    let z = copied-kept _ _ _ _ _ _ _ c.copy_object-packed.result (c.copy_object-packed.ensures.copied p.sound).0 in
    dropped w _ s _ _ k _ _ c.in_ok-token.token sound p z.0 z.1 z.2 _ (c.pop_discard.ensures.discarded _ z.0 (level-is w _ s _ _ k _ _ c.in_ok-token.token sound p z.0 z.1 z.2))
