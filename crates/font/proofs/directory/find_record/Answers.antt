use Rattle.std.proofs.Common.{◌≡◌, ◌+◌, ◌*◌, sym, ◌∙◌, arith, rules}
use Rattle.font.specs.Numbers.{long_at}
use Rattle.font.proofs.Steps.{hit, miss}
use Rattle.font.proofs.directory.find_record.Goals as goal

pub returns-then-tag_at-tag : goal.returns-then-tag_at-tag
returns-then-tag_at-tag c =
    let e : long_at c.args.file.now (12 + 16 * c.loop-i.i) ≡ c.args.tag = search rules in
    record {
      value = sym (hit c.args.file.now c.args.tag c.loop-i.i c.args.number (omega arith) e) ∙ c.loop-i.invariant;
      within = search rules;
    }

pub loop-i-preserved : goal.loop-i-preserved
loop-i-preserved c =
    sym (miss c.args.file.now c.args.tag c.loop-i.i c.args.number (omega arith) (λ e. search rules))
    ∙ c.loop-i.invariant
