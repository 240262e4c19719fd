use Rattle.numbering.proofs.Looking.{found-place}
use Rattle.numbering.proofs.remap.place_in.Goals as goal

pub returns : goal.returns
returns c = λ up. found-place c.args.set.now c.args.x c.find.result c.ok.result c.ok.ensures.value c.find.ensures.found (c.find.ensures.placed up)
