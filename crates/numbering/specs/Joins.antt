-- What joining kept features leaves in two slices.
--   Joinable    the lookups ascend, and each slice has room for every kept feature
--   Joined      the slices begin with the survivors and with the earliest match of each that has one
use Rattle.std.specs.Prelude.{◌≡◌, ℕ, ◌≤◌, List, length, take}
use Rattle.source.specs.Reading.{Reading}
use Rattle.numbering.specs.declared.joins.Joins.{Joins}
use Rattle.numbering.specs.Sets.{Ascends}
use Rattle.numbering.specs.Stages.{survivors, matched, earliest_of}

pub record Joinable (ls fs vs es : List ℕ) : Type 0 where
  pub ascending : Ascends ls
  pub room : length fs ≤ length vs
  pub room_for_matches : length fs ≤ length es

pub record Joined (r : Reading) (ls fs vs es : List ℕ) (n : Joins) : Type 0 where
  pub surviving : take n.survivors vs ≡ survivors r ls fs
  pub matching : take n.matched vs ≡ matched r (survivors r ls fs)
  pub earliest_matches : take n.matched es ≡ earliest_of r ls (survivors r ls fs)
