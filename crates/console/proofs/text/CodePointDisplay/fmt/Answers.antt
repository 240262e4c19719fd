use Rattle.std.proofs.Common.{rules}
use Rattle.std.proofs.lemmas.Fmt.{hex_byte}
use Rattle.console.proofs.Planes.{digits_plane}
use Rattle.console.proofs.text.CodePointDisplay.fmt.Goals as goal

pub returns-then-plane-eq0-clause-writes : goal.returns-then-plane-eq0-clause-writes
returns-then-plane-eq0-clause-writes g c = search (rules, hex_byte)

pub returns-else-plane-eq0-clause-writes : goal.returns-else-plane-eq0-clause-writes
returns-else-plane-eq0-clause-writes g c = search (rules, hex_byte, digits_plane)
