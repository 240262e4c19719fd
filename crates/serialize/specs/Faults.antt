-- The number of each fault.
--   code     7: the work buffer is too short. 8: the sink holds no more objects or links.
--            9: a 16-bit link is over 65,535. 10: the out buffer is too short.
use Rattle.std.specs.Prelude.{ℕ}
use Rattle.serialize.specs.declared.faults.Fault.{Fault}
use Rattle.serialize.specs.declared.faults.Fault.TheVariants.{Work, Limit, Offset, Out}

abbrev pub code : Fault → ℕ
code Work = 7
code Limit = 8
code Offset = 9
code Out = 10
