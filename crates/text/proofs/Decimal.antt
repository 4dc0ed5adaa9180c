-- A number's decimal digits: the last one, and those before it.
use Rattle.std.proofs.Common.{◌≡◌, ℕ, ◌+◌, ◌/◌, ◌%◌, ◌^◌, ◌<◌, ◌≤◌, List, [], ◌∷◌, length, decimal, sym, ap, ◌∙◌, arith, length-append}
use Rattle.std.proofs.lemmas.Fmt.{decimal_digit, decimal_step, length-decimal-le}
use Rattle.text.specs.Lay.{laid}
use Rattle.text.proofs.Laid.{laid_laid}

decimal_one : (n : ℕ) → n < 10 → decimal n ≡ (48 + n % 10) ∷ []
decimal_one n small = let e : n ≡ n % 10 = omega arith in decimal_digit n small ∙ ap (λ d. (48 + d) ∷ []) e

pub length_one : (n : ℕ) → n < 10 → length (decimal n) ≡ 1
length_one n small = ap length (decimal_one n small)

pub length_more : (n : ℕ) → 10 ≤ n → n < 2 ^ 64 → length (decimal n) ≡ length (decimal (n / 10)) + 1
length_more n large fits = ap length (decimal_step n large fits) ∙ length-append (decimal (n / 10)) _

-- one digit laid is the whole of a number below ten
pub laid_one : (at n : ℕ) (buffer : List ℕ) → n < 10 → laid at ((48 + n % 10) ∷ []) buffer ≡ laid at (decimal n) buffer
laid_one at n buffer small = ap (λ ds. laid at ds buffer) (sym (decimal_one n small))

-- the last digit behind those before it
pub laid_more : (at n : ℕ) (buffer : List ℕ) → 10 ≤ n → n < 2 ^ 64 → at ≤ length buffer → laid (at + length (decimal (n / 10))) ((48 + n % 10) ∷ []) (laid at (decimal (n / 10)) buffer) ≡ laid at (decimal n) buffer
laid_more at n buffer large fits room = laid_laid at (decimal (n / 10)) _ buffer room ∙ ap (λ ds. laid at ds buffer) (sym (decimal_step n large fits))

pub length_of_32_bits : (n : ℕ) → n < 2 ^ 32 → length (decimal n) ≤ 10
length_of_32_bits n fits = length-decimal-le 10 n (omega arith) (omega arith) (omega arith)

pub length_of_64_bits : (n : ℕ) → n < 2 ^ 64 → length (decimal n) ≤ 20
length_of_64_bits n fits = length-decimal-le 20 n (omega arith) (omega arith) fits
