use Rattle.std.proofs.Common.{◌-◌, sym, ◌∙◌, true≢false, arith}
use Rattle.keys.proofs.Rising.{rises_more, at_both, of_both, less, not_less}
use Rattle.keys.proofs.slots.is_ascending.Goals as goal

pub loop-i-preserved : goal.loop-i-preserved
loop-i-preserved g c =
    let k = g.K.Key in let xs = c.args.keys.now in let i = c.loop-i.i in
    let next = less _ _ _ c.order.result c.order.ensures.ranked (sym c.is_lt.ensures ∙ c.if-not-is_lt.false) in
    rises_more g.met.K.Key.laws xs i (omega arith) c.loop-i.invariant (at_both k.before xs (i - 1) i _ _ (omega arith) (omega arith) c.index-keys-i.is c.index-keys-i-in-loop-i.is next)

pub returns-then-not-is_lt : goal.returns-then-not-is_lt
returns-then-not-is_lt g c =
    let k = g.K.Key in let xs = c.args.keys.now in let i = c.loop-i.i in
    let none = not_less g.met.K.Key.laws c.index-keys-i.result c.index-keys-i-in-loop-i.result c.order.result c.order.ensures.ranked (sym c.is_lt.ensures ∙ c.if-not-is_lt.true) in
    (λ e. absurd (true≢false (sym e)), λ up. absurd (none (of_both k.before xs (i - 1) i _ _ (omega arith) (omega arith) c.index-keys-i.is c.index-keys-i-in-loop-i.is (λ d. up (i - 1) i d (omega arith) (omega arith)))))
