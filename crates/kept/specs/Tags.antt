-- A list of tags.
--   SpellsTag bs t  bs is the text of the tag t
--   Covers ps xs k  each of the first k parts is the text of a tag that xs has, and xs has no others
use Rattle.std.specs.Prelude.{◌≡◌, ℕ, List, Some}
use Rattle.keys.specs.Tags.{TagSame}
use Rattle.keys.specs.Texts.{tag_by}
use Rattle.keys.specs.declared.tags.Tag.{Tag}
use Rattle.kept.specs.Cuts as cuts

abbrev pub SpellsTag : List ℕ → Tag → Type 0
SpellsTag bs t = tag_by bs ≡ Some t.code

abbrev pub Covers : List (List ℕ) → List Tag → ℕ → Type 0
Covers ps xs k = cuts.Covers TagSame SpellsTag TagSame ps xs k
