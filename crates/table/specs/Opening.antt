-- Which bytes are taken for a table, and which refusal the others get.
--   refusal     of bytes: too large for more than 65,535, else bad for a header that is short or of another major version
use Rattle.std.specs.Prelude.{ℕ, cond, List, length, Some, None, Option, nat_le}
use Rattle.source.specs.declared.refusals.Refusal.{Refusal}
use Rattle.source.specs.declared.refusals.Refusal.TheVariants.{SourceTooLarge, BadHeader}
use Rattle.table.specs.Format.{header_whole}

abbrev pub refusal : List ℕ → Option Refusal
refusal b = cond (nat_le (length b) 65535) (cond (header_whole b) None (Some BadHeader)) (Some SourceTooLarge)
