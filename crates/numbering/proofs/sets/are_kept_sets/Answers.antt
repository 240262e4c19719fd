use Rattle.std.proofs.Common.{arith}
use Rattle.numbering.proofs.sets.are_kept_sets.Goals as goal

pub returns-then-is_ascending-2 : goal.returns-then-is_ascending-2
returns-then-is_ascending-2 c =
    let told = c.is_ascending-then-is_ascending-2.ensures in (
      λ e. record {
        lookups = grind arith;
        few_lookups = grind arith;
        features = grind arith;
        few_features = grind arith;
        scripts = told.0 e;
        few_scripts = grind arith;
      },
      λ k. told.1 k.scripts,
    )
