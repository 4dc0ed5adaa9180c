-- Interrupts. Line n is bit n, counted from the left.
use Rattle.std.specs.Prelude.{ℕ, ◌-◌, ◌/◌, ◌^◌, cond, ◌&&◌, Some, None, Option, bit_and, nat_lt, slice_index}
use Rattle.std.specs.Int.Count.{count_leading_zeros}
use Rattle.registers.specs.declared.registers.Registers.{Registers}
use Rattle.registers.specs.declared.trap.Cause.{Cause}
use Rattle.registers.specs.declared.trap.Trap.TheVariants.{Interrupt}
use Rattle.registers.specs.Access.{with_pending}

-- the lines that are pending and open in CR22
abbrev pub open_lines : Registers → ℕ
open_lines s = bit_and s.pending (slice_index s.cr 22)

-- the line that is taken: the lowest of them, which is the leftmost bit
abbrev pub open_line : Registers → Option ℕ
open_line s = cond (s.status.interrupts && nat_lt 0 (open_lines s)) (Some (count_leading_zeros 32 (open_lines s))) None

-- that line is no longer pending, and the others stay
abbrev pub line_cleared : Registers → ℕ → Registers
line_cleared s n = with_pending s (s.pending - 2 ^ 31 / 2 ^ n)

abbrev pub by_line : Registers → Option ℕ → Registers
by_line s None = s
by_line s (Some n) = line_cleared s n

-- the cause of an interrupt: no word was fetched, and the line stands for the offset
abbrev pub interrupt : ℕ → Cause
interrupt n = record { trap = Interrupt; segment = 0; offset = n; word = 0 }
