-- The kinds of layout table.
--   kind_text k    a table's name
--   kind_by w      the kind that a word names
--   Names w r      r is the kind that the word w names, or says that it names none
--   code_by k      the tag of a kind of table, 'GSUB' or 'GPOS'
--   Tagged k t     t is that tag
use Rattle.std.specs.Prelude.{◌≡◌, ℕ, cond, List, Some, None, Ok, Err, codes, Option, Result}
use Rattle.std.specs.Str.{bytes_eq}
use Rattle.keys.specs.declared.tags.Tag.{Tag}
use Rattle.source.specs.declared.kinds.Kind.{Kind}
use Rattle.source.specs.declared.kinds.Kind.TheVariants.{Gsub, Gpos}
use Rattle.source.specs.declared.kinds.UnknownKind.{UnknownKind}

abbrev pub kind_text : Kind → List ℕ
kind_text Gsub = codes "GSUB"
kind_text Gpos = codes "GPOS"

abbrev pub kind_by : List ℕ → Option Kind
kind_by w = cond (bytes_eq w (kind_text Gsub)) (Some Gsub) (cond (bytes_eq w (kind_text Gpos)) (Some Gpos) None)

abbrev pub Names : List ℕ → Result Kind UnknownKind → Type 0
Names w (Ok k) = kind_by w ≡ Some k
Names w (Err e) = kind_by w ≡ None

abbrev pub code_by : Kind → ℕ
code_by Gsub = 0x47535542
code_by Gpos = 0x47504F53

abbrev pub Tagged : Kind → Tag → Type 0
Tagged k t = t.code ≡ code_by k
