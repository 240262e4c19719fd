use Rattle.std.proofs.Common.{length, refl, ap, arith}
use Rattle.std.proofs.lemmas.List.{get_or-replicate}
use Rattle.numbering.proofs.systems.PruneLangSysContext.new.Goals as goal

pub returns : goal.returns
returns c = λ ms few. record {
  scripts = refl;
  sum = refl;
  flags = few;
  named = λ p h. get_or-replicate 512 p _ _ (omega arith);
  filled = omega (arith, ap length c.new.ensures);
  pairs = c.new.ensures;
}
