-- What a file has under a tag.
--   Answer            the table's bytes, or why there are none
--   Outcome           a part of a font file, the whole of a file, or why there is neither
--   meaning r         what the library's own answer says
--   part_by b a       the outcome for the file b, by what its directory has
--   answer_by o       what the directory has, by the outcome
--   by_record b i     what the record at i leads to: its offset stands at 8 and its length at 12
--   by_directory b t  what the first record with the tag t leads to
--   unless_bare b a   a, but bare where a layout table's own bytes explain why the directory leads to none
--   table_of b t      the whole answer
use Rattle.std.specs.Prelude.{ℕ, ◌+◌, cond, List, length, take, drop, Some, None, Ok, Err, Option, Result, nat_le}
use Rattle.font.specs.declared.directory.Opening.{Opening}
use Rattle.font.specs.declared.directory.Opening.TheVariants as OpeningCase
use Rattle.font.specs.declared.tables.Part.{Part}
use Rattle.font.specs.declared.tables.Part.TheVariants.{InFont, Bare}
use Rattle.font.specs.declared.tables.FontFault.{FontFault}
use Rattle.font.specs.declared.tables.FontFault.TheVariants.{Collection, Compressed, ShortDirectory, NoTable, PastEnd}
use Rattle.font.specs.Numbers.{long_at}
use Rattle.font.specs.Directory.{opening_of, may_be_layout, records_of, first_from}

pub data Answer : Type 0 where
  table : List ℕ → Answer
  bare : Answer
  collection : Answer
  compressed : Answer
  short_directory : Answer
  no_record : Answer
  past_end : Answer

pub data Outcome : Type 0 where
  in_font : List ℕ → Outcome
  whole_file : List ℕ → Outcome
  no_part : FontFault → Outcome

abbrev pub meaning : Result Part FontFault → Outcome
meaning (Ok (InFont s)) = in_font s.now
meaning (Ok (Bare s)) = whole_file s.now
meaning (Err f) = no_part f

abbrev pub part_by : List ℕ → Answer → Outcome
part_by b (table s) = in_font s
part_by b bare = whole_file b
part_by b collection = no_part Collection
part_by b compressed = no_part Compressed
part_by b short_directory = no_part ShortDirectory
part_by b no_record = no_part NoTable
part_by b past_end = no_part PastEnd

abbrev pub answer_by : Outcome → Answer
answer_by (in_font s) = table s
answer_by (whole_file b) = bare
answer_by (no_part Collection) = collection
answer_by (no_part Compressed) = compressed
answer_by (no_part ShortDirectory) = short_directory
answer_by (no_part NoTable) = no_record
answer_by (no_part PastEnd) = past_end

abbrev pub by_record : List ℕ → ℕ → Answer
by_record b i =
    cond (nat_le (long_at b (i + 8) + long_at b (i + 12)) (length b))
    (table (take (long_at b (i + 12)) (drop (long_at b (i + 8)) b))) past_end

abbrev pub by_place : List ℕ → Option ℕ → Answer
by_place b None = no_record
by_place b (Some i) = by_record b i

abbrev pub by_count : List ℕ → ℕ → Option ℕ → Answer
by_count b t None = short_directory
by_count b t (Some n) = by_place b (first_from b t 0 n)

abbrev pub by_directory : List ℕ → ℕ → Answer
by_directory b t = by_count b t (records_of b)

abbrev pub unless_bare : List ℕ → Answer → Answer
unless_bare b (table s) = table s
unless_bare b bare = bare
unless_bare b collection = collection
unless_bare b compressed = compressed
unless_bare b short_directory = cond (may_be_layout b) bare short_directory
unless_bare b no_record = cond (may_be_layout b) bare no_record
unless_bare b past_end = past_end

abbrev pub by_opening : List ℕ → ℕ → Opening → Answer
by_opening b t OpeningCase.Font = by_directory b t
by_opening b t OpeningCase.FontOrLayout = unless_bare b (by_directory b t)
by_opening b t OpeningCase.Collection = collection
by_opening b t OpeningCase.Compressed = compressed
by_opening b t OpeningCase.Other = bare

abbrev pub table_of : List ℕ → ℕ → Answer
table_of b t = by_opening b t (opening_of b)
