use Rattle.std.proofs.Common.{◌≡◌, ◌≤◌, ◌++◌, take, drop}
use Rattle.numbering.specs.Context.{chosen}
use Rattle.numbering.proofs.systems.PruneLangSysContext.choose.Given as goal

abbrev pub invariant-loop-p : goal.invariant-loop-p
invariant-loop-p l = (l.n ≤ l.p) × (take l.n l.out ++ chosen (drop l.p l.self.named) (drop l.p l.from) ≡ chosen l.self.named l.from)
