-- Filling a field with its sign.
use Rattle.std.proofs.Common.{◌≡◌, ℕ, suc, ◌+◌, ◌-◌, ◌*◌, ◌/◌, ◌%◌, ◌^◌, ◌<◌, ◌≤◌, ap, ◌∙◌, mod-lt, mod-eq_of_lt, pow-suc, arith}
use Rattle.std.proofs.lemmas.Nat.{pow_pos}
use Rattle.std.proofs.lemmas.Bool.{le-ltb}
use Rattle.isa.specs.Fields.{bits, sign_filled}

-- taking the sign bit's worth away twice fills with ones
pub filled : (v h : ℕ) → h < 2 ^ 31 → h ≤ v → v < 2 * h → ((v + (2 ^ 32 - 1 * h % 2 ^ 32)) % 2 ^ 32 + (2 ^ 32 - 1 * h % 2 ^ 32)) % 2 ^ 32 ≡ sign_filled h v
filled v h small low high =
    let fits : 1 * h % 2 ^ 32 ≡ h = omega arith in
    let once : (v + (2 ^ 32 - h)) % 2 ^ 32 ≡ v - h = omega arith in
    let below : v - h + (2 ^ 32 - h) < 2 ^ 32 = omega arith in
    rw (le-ltb v h low, fits, once, mod-eq_of_lt below) (omega arith)

-- a field is below twice its sign bit's worth
pub field_below : (first last w : ℕ) → first ≤ last → bits first last w < 2 * 2 ^ (last - first)
field_below first last w h =
    let e : last + 1 - first ≡ suc (last - first) = omega arith in
    let p : 2 ^ (last + 1 - first) ≡ 2 ^ (last - first) * 2 = ap (λ (n : ℕ). 2 ^ n) e ∙ pow-suc 2 (last - first) in
    omega (arith, p, mod-lt (w / 2 ^ (31 - last)) (pow_pos (last + 1 - first)))
