-- The arithmetic of 32-bit numbers.
use Rattle.std.specs.Prelude.{ℕ, ◌+◌, ◌-◌, ◌%◌, ◌^◌, Bool, true, false, not, ◌&&◌, ◌==◌, nat_le, nat_lt}
use Rattle.isa.specs.declared.arithmetic.Sum.{Sum}
use Rattle.isa.specs.declared.instruction.Condition.{Condition}
use Rattle.isa.specs.declared.instruction.Condition.TheVariants.{Equal, Less, NotEqual, LessOrEqual}

abbrev pub one_if : Bool → ℕ
one_if true = 1
one_if false = 0

-- a signed number moved up by 2 ^ 31, so that the order of signed numbers is that of the natural ones
abbrev pub biased : ℕ → ℕ
biased x = (x + 2 ^ 31) % 2 ^ 32

-- whether 32 bits hold the signed number that stands 2 ^ 32 below s in the sum or difference of two biased ones
abbrev pub held : ℕ → Bool
held s = nat_le (2 ^ 31) s && nat_lt s (2 ^ 31 + 2 ^ 32)

-- x + y + k; its carry is that of the natural numbers, its overflow that of the signed ones
abbrev pub sum_of : ℕ → ℕ → Bool → Sum
sum_of x y k = record { value = (x + y + one_if k) % 2 ^ 32; carry = nat_le (2 ^ 32) (x + y + one_if k); overflow = not (held (biased x + biased y + one_if k)) }

-- x - y - k, whose carry is the borrow
abbrev pub difference_of : ℕ → ℕ → Bool → Sum
difference_of x y k = record { value = (x + 2 ^ 32 - y - one_if k) % 2 ^ 32; carry = nat_lt x (y + one_if k); overflow = not (held (biased x + 2 ^ 32 - biased y - one_if k)) }

abbrev pub inverted_if : Bool → ℕ → ℕ
inverted_if true x = 2 ^ 32 - 1 - x
inverted_if false x = x

abbrev pub meets : Condition → ℕ → ℕ → Bool
meets Equal x y = x == y
meets Less x y = nat_lt x y
meets NotEqual x y = not (x == y)
meets LessOrEqual x y = nat_le x y

abbrev pub meets_signed : Condition → ℕ → ℕ → Bool
meets_signed c x y = meets c (biased x) (biased y)
