use Rattle.std.proofs.Common.{◌≡◌, ℕ, ◌+◌, ◌*◌, ◌<◌, length, drop, get_or, Some, vec_items, vec_len}
use Rattle.vectors.specs.Hex.{byte_at}
use Rattle.vectors.proofs.hex.read_hex.Given as goal

abbrev pub invariant-loop-left : goal.invariant-loop-left
invariant-loop-left l =
    (l.left ≡ drop (2 * vec_len l.bytes) l.digits) × (2 * vec_len l.bytes + length l.left ≡ length l.digits) × ((i : ℕ) → i < vec_len l.bytes → byte_at l.digits i ≡ Some (get_or (vec_items l.bytes) i 0))

abbrev pub decreases-loop-left : goal.decreases-loop-left
decreases-loop-left l = length l.left
