use Rattle.std.proofs.Common.{◌≡◌, ℕ, ◌+◌, ◌-◌, ◌*◌, ◌<◌, ◌≤◌, List, length, drop, take, get_or, Some, refl, sym, ap, ◌∙◌, arith, rules, below_more, vec_len, vec_items, length-drop}
use Rattle.std.proofs.lemmas.List.{places, take_all, drop-drop}
use Rattle.vectors.specs.Hex.{byte_at, byte_by}
use Rattle.vectors.proofs.hex.read_hex.Goals as goal

-- two digits fewer are left, and one byte more is there, at the place n
module _ (ds left old new : List ℕ) (n m b : ℕ) (two : 2 ≤ length left) (at_n : left ≡ drop (2 * n) ds) (sum : 2 * n + length left ≡ length ds) (more : m ≡ n + 1) where
  rest_is : take (length left - 2) (drop 2 left) ≡ drop 2 left
  rest_is = let size = length-drop 2 left in take_all (length left - 2) (drop 2 left) (omega arith)

  fewer : take (length left - 2) (drop 2 left) ≡ drop (2 * m) ds
  fewer =
      let e : 2 * n + 2 ≡ 2 * m = omega arith in
      rest_is ∙ ap (drop 2) at_n ∙ drop-drop 2 (2 * n) ds ∙ ap (λ k. drop k ds) e

  left_over : 2 * m + length (take (length left - 2) (drop 2 left)) ≡ length ds
  left_over = let size = ap length rest_is ∙ length-drop 2 left in omega arith

  pair_at : (h l : ℕ) → h ≡ get_or left 0 0 → l ≡ get_or left 1 0 → byte_by h l ≡ byte_at ds n
  pair_at h l h_is l_is =
      let first : h ≡ get_or ds (2 * n) 0 = grind (arith, places, h_is, at_n) in
      let second : l ≡ get_or ds (2 * n + 1) 0 = grind (arith, places, l_is, at_n) in
      ap (λ x. byte_by x l) first ∙ ap (byte_by (get_or ds (2 * n) 0)) second

  spelt_more : ((i : ℕ) → i < n → byte_at ds i ≡ Some (get_or old i 0)) → ((i d : ℕ) → i < n → get_or new i d ≡ get_or old i d) → byte_at ds n ≡ Some b → get_or new n 0 ≡ b → (i : ℕ) → i < m → byte_at ds i ≡ Some (get_or new i 0)
  spelt_more inv below at here i h =
      below_more _ _ (λ j k. inv j k ∙ ap Some (sym (below j 0 k))) (at ∙ ap Some (sym here)) i (omega arith)

pub loop-left-preserved : goal.loop-left-preserved
loop-left-preserved c =
    let ds = c.args.digits.now in let left = c.loop-left.left.now in
    let n = vec_len c.loop-left.bytes in let m = vec_len c.push.new.self in
    let old = vec_items c.loop-left.bytes in let new = vec_items c.push.new.self in
    let inv = c.loop-left.invariant in
    let more : m ≡ n + 1 = search rules in
    let b = c.in_ok-ok_or.field-0 in
    let told : byte_by (get_or left 0 0) (get_or left 1 0) ≡ Some b = search rules in
    (fewer ds left old new n m b c.in-len2-up.len_at_least inv.0 inv.1 more, left_over ds left old new n m b c.in-len2-up.len_at_least inv.0 inv.1 more, spelt_more ds left old new n m b c.in-len2-up.len_at_least inv.0 inv.1 more inv.2 c.push.ensures.by_index.0 (sym (pair_at ds left old new n m b c.in-len2-up.len_at_least inv.0 inv.1 more _ _ refl refl) ∙ told) (c.push.ensures.by_index.1 0 (search rules)))
