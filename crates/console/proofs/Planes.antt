-- The digits of a plane, a number of one byte that is not 0.
use Rattle.std.proofs.Common.{◌≡◌, ℕ, ◌<◌, ◌≤◌, true, ⊎_elim, rules}
use Rattle.std.specs.Fmt.{digits}
use Rattle.std.proofs.lemmas.Bool.{cases_lt}
use Rattle.std.proofs.lemmas.Fmt.{hex_one_digit, hex_two_digits}
use Rattle.console.specs.Texts.{plane_text}

pub digits_plane : (p : ℕ) → (p ≡ 0 → ⊥) → p < 256 → digits 16 true p ≡ plane_text p
digits_plane p some below =
    ⊎_elim (λ (l : p < 16). search (rules, hex_one_digit)) (λ (g : 16 ≤ p). search (rules, hex_two_digits)) (cases_lt p 16)
