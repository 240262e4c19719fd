use Rattle.std.proofs.lemmas.Bool.Decides.{same_from_decides}
use Rattle.numbering.proofs.Members.{among-decides}
use Rattle.numbering.proofs.sets.IndexSet.contains.Goals as goal

pub returns : goal.returns
returns c =
    same_from_decides c.contains.result _ (c.contains.ensures.held, c.contains.ensures.found c.args.self.now.ascends) (among-decides c.args.self.now.items.now c.args.index)
