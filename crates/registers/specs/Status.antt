-- The status as a number of 16 bits, of which bit 0 is the most significant.
use Rattle.std.specs.Prelude.{ℕ, ◌+◌, ◌*◌, ◌/◌, ◌%◌, ◌^◌, Bool, false, ◌==◌}
use Rattle.isa.specs.Arithmetic.{one_if}
use Rattle.registers.specs.declared.status.Status.{Status}

-- what bit n is worth among 16
abbrev pub status_bit : ℕ → ℕ → Bool
status_bit place w = w / 2 ^ place % 2 == 1

-- X is bit 1, C 2, K 4, D 13, P 14 and E 15
abbrev pub status_word : Status → ℕ
status_word t =
    one_if t.user * 2 ^ 14 + one_if t.code * 2 ^ 13 + one_if t.carry * 2 ^ 11 + one_if t.«data» * 2 ^ 2 + one_if t.protect * 2 ^ 1 + one_if t.interrupts

abbrev pub status_of : ℕ → Status
status_of w =
    record { user = status_bit 14 w; code = status_bit 13 w; carry = status_bit 11 w; «data» = status_bit 2 w; protect = status_bit 1 w; interrupts = status_bit 0 w }

abbrev pub clear_status : Status
clear_status = record { user = false; code = false; carry = false; «data» = false; protect = false; interrupts = false }

abbrev pub with_user : Status → Bool → Status
with_user t x = record t { user = x }

abbrev pub with_carry : Status → Bool → Status
with_carry t k = record t { carry = k }
