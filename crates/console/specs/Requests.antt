-- What the words after the program's name ask for, numbering too.
--   Lists           the words that say which lookups, features and scripts are kept
--   Errand          a request, or what is wrong with the words
--   asked r         what the program's own answer says
--   then_..         what the words after these ask for
--   errand_by ws    what the words ask for: numbering, where the first is 'number', and else a command
use Rattle.std.specs.Prelude.{◌≡◌, ℕ, cond, List, Some, None, Ok, Err, codes, Option, Result}
use Rattle.std.specs.Str.{bytes_eq}
use Rattle.std.specs.List.{slice_get}
use Rattle.source.specs.declared.kinds.Kind.{Kind}
use Rattle.console.specs.declared.requests.Request.{Request}
use Rattle.console.specs.declared.requests.Request.TheVariants.{Plain, NumberBuiltin, Number}
use Rattle.console.specs.declared.requests.RequestMisuse.{RequestMisuse}
use Rattle.console.specs.declared.requests.RequestMisuse.TheVariants as WrongCase
use Rattle.console.specs.declared.requests.SetWords.{SetWords}
use Rattle.console.specs.declared.arguments.Misuse.{Misuse}
use Rattle.source.specs.Kinds.{kind_by}
use Rattle.console.specs.Words.{Choice, meaning, choice_by}

pub record Lists : Type 0 where
  pub lookups : List ℕ
  pub features : List ℕ
  pub scripts : List ℕ

pub data Errand : Type 0 where
  plain : Choice → Errand
  number_builtin : Errand
  number : Kind → List ℕ → Lists → Errand
  unknown_table : List ℕ → Errand
  path_missing : Kind → Errand
  list_missing : Kind → Errand
  word_after_lists : List ℕ → Errand

abbrev pub sets_meaning : SetWords → Lists
sets_meaning s = record { lookups = s.lookups.now; features = s.features.now; scripts = s.scripts.now }

abbrev pub asked : Result Request RequestMisuse → Errand
asked (Ok (Plain c)) = plain (meaning (Ok c))
asked (Ok NumberBuiltin) = number_builtin
asked (Ok (Number k p s)) = number k p.now (sets_meaning s)
asked (Err (WrongCase.Plain m)) = plain (meaning (Err m))
asked (Err (WrongCase.UnknownTable w)) = unknown_table w.now
asked (Err (WrongCase.PathMissing k)) = path_missing k
asked (Err (WrongCase.ListMissing k)) = list_missing k
asked (Err (WrongCase.WordAfterLists w)) = word_after_lists w.now

-- the misuse of a command is told as it is
abbrev pub Plainly : Misuse → RequestMisuse → Type 0
Plainly m r = r ≡ WrongCase.Plain m

abbrev pub unless_word : Errand → Option (List ℕ) → Errand
unless_word c None = c
unless_word c (Some w) = word_after_lists w

-- the third, fourth and fifth word, where all are there
abbrev pub lists_of : Option (List ℕ) → Option (List ℕ) → Option (List ℕ) → Option Lists
lists_of None b c = None
lists_of (Some x) None c = None
lists_of (Some x) (Some y) None = None
lists_of (Some x) (Some y) (Some z) = Some (record { lookups = x; features = y; scripts = z })

abbrev pub sets_by : List (List ℕ) → Option Lists
sets_by ws = lists_of (slice_get ws 3) (slice_get ws 4) (slice_get ws 5)

abbrev pub then_lists : List (List ℕ) → Kind → List ℕ → Option Lists → Errand
then_lists ws k p None = list_missing k
then_lists ws k p (Some s) = unless_word (number k p s) (slice_get ws 6)

abbrev pub then_file : List (List ℕ) → Kind → Option (List ℕ) → Errand
then_file ws k None = path_missing k
then_file ws k (Some p) = then_lists ws k p (sets_by ws)

abbrev pub then_table : List (List ℕ) → List ℕ → Option Kind → Errand
then_table ws w None = unknown_table w
then_table ws w (Some k) = then_file ws k (slice_get ws 2)

abbrev pub then_numbered : List (List ℕ) → Option (List ℕ) → Errand
then_numbered ws None = number_builtin
then_numbered ws (Some w) = then_table ws w (kind_by w)

abbrev pub then_request : List (List ℕ) → Option (List ℕ) → Errand
then_request ws None = plain (choice_by ws)
then_request ws (Some w) = cond (bytes_eq w (codes "number")) (then_numbered ws (slice_get ws 1)) (plain (choice_by ws))

abbrev pub errand_by : List (List ℕ) → Errand
errand_by ws = then_request ws (slice_get ws 0)
