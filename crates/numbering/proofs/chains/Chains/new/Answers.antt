use Rattle.std.proofs.Common.{arith}
use Rattle.std.proofs.lemmas.List.{get_or-replicate}
use Rattle.numbering.proofs.chains.Chains.new.Goals as goal

pub returns : goal.returns
returns c = λ f. record { from = λ b h. get_or-replicate 239 b _ _ h; onward = λ p h. absurd (omega arith) }
