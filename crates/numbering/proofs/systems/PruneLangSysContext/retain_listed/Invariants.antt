use Rattle.std.proofs.Common.{take}
use Rattle.source.specs.Questions.{lang_sys_of, indices_of}
use Rattle.numbering.specs.Sets.{among}
use Rattle.numbering.specs.Context.{Marked}
use Rattle.numbering.proofs.systems.PruneLangSysContext.retain_listed.Given as goal

abbrev pub invariant-loop-k : goal.invariant-loop-k
invariant-loop-k g l = Marked l.walk.matches.matched.now (among (take l.k (indices_of (lang_sys_of (g.S.Source.reading l.walk.source.now) l.at)))) l.initial.self l.self
