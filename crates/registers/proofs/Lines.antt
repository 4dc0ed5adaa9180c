-- The line that is taken is pending.
use Rattle.std.proofs.Common.{◌≡◌, ℕ, suc, ◌+◌, ◌/◌, ◌^◌, ◌<◌, ◌≤◌, ap, ◌∙◌, arith}
use lib.Bits.{bit_and}
use lib.Count.{count_leading_zeros}
use Rattle.std.proofs.lemmas.Nat.{leading_top, and_le_l, pow-add, shl-shr}

-- the leftmost open line is one of 32
pub line_below : (p m : ℕ) → p < 2 ^ 32 → 0 < bit_and p m → count_leading_zeros 32 (bit_and p m) < 32
line_below p m fit pos = let h = leading_top 32 (bit_and p m) pos (omega (arith, and_le_l p m)) in omega (arith, h.1)

-- what line n is worth, counted from the right
worth : (n j : ℕ) → n + suc j ≡ 32 → 2 ^ 31 / 2 ^ n ≡ 2 ^ j
worth n j e =
    let s : 31 ≡ j + n = omega arith in
    ap (λ (k : ℕ). 2 ^ k / 2 ^ n) s ∙ ap (λ (k : ℕ). k / 2 ^ n) (pow-add 2 j n) ∙ shl-shr (2 ^ j) n

-- its bit is no more than the number that has it
pub line_within : (p m : ℕ) → p < 2 ^ 32 → 0 < bit_and p m → 2 ^ 31 / 2 ^ count_leading_zeros 32 (bit_and p m) ≤ p
line_within p m fit pos =
    let h = leading_top 32 (bit_and p m) pos (omega (arith, and_le_l p m)) in
    omega (arith, worth (count_leading_zeros 32 (bit_and p m)) h.0 h.1, h.2, and_le_l p m)
