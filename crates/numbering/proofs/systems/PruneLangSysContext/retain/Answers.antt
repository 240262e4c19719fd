use Rattle.std.proofs.Common.{◌≡◌, length, arith, rules}
use Rattle.std.proofs.lemmas.Option.{MatchOption-at_none}
use Rattle.numbering.proofs.Marking.{marked-at, marked-absent}
use Rattle.numbering.proofs.systems.PruneLangSysContext.retain.Goals as goal

pub returns-in-Some : goal.returns-in-Some
returns-in-Some c =
    let matches = c.args.matches.now in
    let size : length c.args.self.now.named ≡ 512 = search rules in
    let at = c.in-Some.ensures in
    marked-at matches.matched.now c.args.self.now c.in-Some.p c.args.index matches.paired.ascending (omega (arith, matches.paired.few)) at.0 at.1

pub returns-in_default : goal.returns-in_default
returns-in_default c = marked-absent c.args.matches.now.matched.now c.args.self.now c.args.index (MatchOption-at_none _ _ c.in_default.is c.place.ensures)
