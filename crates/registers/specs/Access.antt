-- Registers read and written. A register number past the last wraps round.
use Rattle.std.specs.Prelude.{◌≡◌, ℕ, ◌+◌, ◌*◌, ◌/◌, ◌%◌, ◌^◌, Bool, false, List, replicate, slice_index, slice_set, refl}
use Rattle.registers.specs.declared.registers.Registers.{Registers}
use Rattle.registers.specs.declared.status.Status.{Status}
use Rattle.registers.specs.Status.{clear_status, with_user, with_carry}
use Rattle.registers.specs.Ranges.{gr_put, zero_kept, cr_put, narrow_kept, words_aligned}

-- ---- one field changed

abbrev pub with_gr : (s : Registers) (g : List ℕ) → slice_index g 0 ≡ 0 → Registers
with_gr s g z = record s { gr = g; zero = z }

abbrev pub with_sr : Registers → List ℕ → Registers
with_sr s g = record s { sr = g }

abbrev pub with_cr : (s : Registers) (c : List ℕ) → slice_index c 2 % 32 ≡ slice_index c 2 → Registers
with_cr s c n = record s { cr = c; narrow = n }

abbrev pub with_segment : Registers → ℕ → Registers
with_segment s n = record s { segment = n }

-- the offset loses its two lowest bits
abbrev pub with_offset : Registers → ℕ → Registers
with_offset s n = record s { offset = n / 4 * 4; aligned = words_aligned n }

abbrev pub with_status : Registers → Status → Registers
with_status s t = record s { status = t }

abbrev pub with_pending : Registers → ℕ → Registers
with_pending s n = record s { pending = n }

abbrev pub with_halted : Registers → Bool → Registers
with_halted s b = record s { halted = b }

abbrev pub with_steps : Registers → ℕ → Registers
with_steps s n = record s { steps = n }

-- ---- registers by number

abbrev pub general : Registers → ℕ → ℕ
general s n = slice_index s.gr (n % 16)

abbrev pub put_general : Registers → ℕ → ℕ → Registers
put_general s n v = with_gr s (gr_put s.gr (n % 16) v) (zero_kept s.gr (n % 16) v s.zero)

abbrev pub control : Registers → ℕ → ℕ
control s n = slice_index s.cr (n % 32)

abbrev pub put_control : Registers → ℕ → ℕ → Registers
put_control s n v = with_cr s (cr_put s.cr (n % 32) v) (narrow_kept s.cr (n % 32) v s.narrow)

-- the lowest 16 bits
abbrev pub put_space : Registers → ℕ → ℕ → Registers
put_space s n v = with_sr s (slice_set s.sr (n % 8) (v % 2 ^ 16))

-- on to the next instruction
abbrev pub next : Registers → Registers
next s = with_offset s ((s.offset + 4) % 2 ^ 32)

abbrev pub at_level : Registers → Bool → Registers
at_level s user = with_status s (with_user s.status user)

abbrev pub carrying : Registers → Bool → Registers
carrying s k = with_status s (with_carry s.status k)

-- all zero
abbrev pub fresh : Registers
fresh = record { gr = replicate 16 0; sr = replicate 8 0; cr = replicate 32 0; segment = 0; offset = 0; status = clear_status; pending = 0; halted = false; steps = 0; zero = refl; narrow = refl; aligned = refl }
