-- What the words after the program's name ask for.
--   Choice          a command, or what is wrong with the words
--   meaning r       what the program's own answer says
--   then_verb ws w  the answer, where w is the first word
--   choice_by ws    the whole answer
use Rattle.std.specs.Prelude.{ℕ, cond, List, Some, None, Ok, Err, codes, Option, Result}
use Rattle.std.specs.List.{slice_get}
use Rattle.std.specs.Str.{bytes_eq}
use Rattle.source.specs.declared.kinds.Kind.{Kind}
use Rattle.source.specs.Kinds.{kind_by}
use Rattle.console.specs.declared.arguments.Command.{Command}
use Rattle.console.specs.declared.arguments.Command.TheVariants.{Builtin, Help, Show}
use Rattle.console.specs.declared.arguments.Misuse.{Misuse}
use Rattle.console.specs.declared.arguments.Misuse.TheVariants.{UnknownCommand, KindMissing, UnknownKind, FileMissing, WordTooMany}

pub data Choice : Type 0 where
  builtin : Choice
  help : Choice
  show : Kind → List ℕ → Choice
  unknown_command : List ℕ → Choice
  kind_missing : Choice
  unknown_kind : List ℕ → Choice
  file_missing : Kind → Choice
  word_too_many : List ℕ → Choice

abbrev pub meaning : Result Command Misuse → Choice
meaning (Ok Builtin) = builtin
meaning (Ok Help) = help
meaning (Ok (Show k p)) = show k p.now
meaning (Err (UnknownCommand w)) = unknown_command w.now
meaning (Err KindMissing) = kind_missing
meaning (Err (UnknownKind w)) = unknown_kind w.now
meaning (Err (FileMissing k)) = file_missing k
meaning (Err (WordTooMany w)) = word_too_many w.now

-- what follows the last word that is asked for
abbrev pub then_end : Choice → Option (List ℕ) → Choice
then_end c None = c
then_end c (Some w) = word_too_many w

abbrev pub then_path : List (List ℕ) → Kind → Option (List ℕ) → Choice
then_path ws k None = file_missing k
then_path ws k (Some p) = then_end (show k p) (slice_get ws 3)

abbrev pub then_known : List (List ℕ) → List ℕ → Option Kind → Choice
then_known ws w None = unknown_kind w
then_known ws w (Some k) = then_path ws k (slice_get ws 2)

abbrev pub then_kind : List (List ℕ) → Option (List ℕ) → Choice
then_kind ws None = kind_missing
then_kind ws (Some w) = then_known ws w (kind_by w)

abbrev pub then_verb : List (List ℕ) → List ℕ → Choice
then_verb ws w =
    cond (bytes_eq w (codes "help")) (then_end help (slice_get ws 1))
    (cond (bytes_eq w (codes "show")) (then_kind ws (slice_get ws 1)) (unknown_command w))

abbrev pub then_first : List (List ℕ) → Option (List ℕ) → Choice
then_first ws None = builtin
then_first ws (Some w) = then_verb ws w

abbrev pub choice_by : List (List ℕ) → Choice
choice_by ws = then_first ws (slice_get ws 0)
