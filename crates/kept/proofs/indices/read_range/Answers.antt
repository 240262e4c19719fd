use Rattle.std.proofs.Common.{◌≡◌, ℕ, List, ◌∷◌, ◌++◌, IfSome, Some, None, Option, inr, lit<}
use Rattle.std.proofs.lemmas.Str.Pattern.{split_parts}
use Rattle.kept.specs.Ranges.{Both, Ranges}
use Rattle.kept.specs.declared.runs.Run.{Run}
use Rattle.kept.proofs.indices.read_range.Goals as goal

from-two : (bs a b : List ℕ) (r : Option Run) → bs ≡ a ++ (45 ∷ b) → IfSome r (Both a b) → IfSome r (Ranges bs)
from-two bs a b None e h = tt
from-two bs a b (Some p) e h = inr (a, b, e, h)

pub returns-in-Some : goal.returns-in-Some
returns-in-Some c =
    from-two _ c.in-Some.first.now c.in-Some.last.now c.read_two.result (split_parts 45 c.args.text.now (Some (c.in-Some.first, c.in-Some.last)) c.in-Some.ensures.cases (lit< tt)).0 c.read_two.ensures
