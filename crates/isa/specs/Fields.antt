-- The fields of an instruction word. Bits are counted from the left: bit 0 is the most significant.
use Rattle.std.specs.Prelude.{ℕ, ◌+◌, ◌-◌, ◌*◌, ◌/◌, ◌%◌, ◌^◌, Bool, cond, ◌==◌, nat_lt}
use Rattle.isa.specs.declared.instruction.Condition.{Condition}
use Rattle.isa.specs.declared.instruction.Condition.TheVariants.{Equal, Less, NotEqual, LessOrEqual}

-- the field from one bit to another, both included
abbrev pub bits : ℕ → ℕ → ℕ → ℕ
bits first last w = w / 2 ^ (31 - last) % 2 ^ (last + 1 - first)

abbrev pub bit : ℕ → ℕ → Bool
bit n w = bits n n w == 1

-- a number in two's complement whose sign bit is worth `half`, filled to 32 bits with that sign
abbrev pub sign_filled : ℕ → ℕ → ℕ
sign_filled half v = cond (nat_lt v half) v (v + 2 ^ 32 - 2 * half)

-- the same field, its first bit being a sign
abbrev pub signed_bits : ℕ → ℕ → ℕ → ℕ
signed_bits first last w = sign_filled (2 ^ (last - first)) (bits first last w)

abbrev pub number : ℕ → ℕ
number = bits 0 5

abbrev pub field_r : ℕ → ℕ
field_r = bits 6 9

abbrev pub field_a : ℕ → ℕ
field_a = bits 24 27

abbrev pub field_b : ℕ → ℕ
field_b = bits 28 31

-- the four conditions with their numbers
abbrev pub condition : ℕ → Condition
condition n = cond (n == 0) Equal (cond (n == 1) Less (cond (n == 2) NotEqual LessOrEqual))
