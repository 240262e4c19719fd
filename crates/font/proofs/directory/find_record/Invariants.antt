use Rattle.std.proofs.Common.{◌≡◌, ◌-◌}
use Rattle.font.specs.Directory.{first_from}
use Rattle.font.proofs.directory.find_record.Given as goal

-- no record below i has the tag
abbrev pub invariant-loop-i : goal.invariant-loop-i
invariant-loop-i l = first_from l.file l.tag l.i (l.number - l.i) ≡ first_from l.file l.tag 0 l.number
