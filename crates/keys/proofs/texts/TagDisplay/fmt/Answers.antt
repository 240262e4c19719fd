use Rattle.std.proofs.Common.{rules}
use Rattle.std.proofs.lemmas.Fmt.{hex_byte}
use Rattle.keys.proofs.texts.TagDisplay.fmt.Goals as goal

pub returns-else-are_printable-clause-writes : goal.returns-else-are_printable-clause-writes
returns-else-are_printable-clause-writes g c = search (rules, hex_byte)
