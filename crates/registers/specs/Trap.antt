-- Traps.
use Rattle.std.specs.Prelude.{ℕ, ◌+◌, ◌*◌, ◌/◌, ◌%◌, ◌^◌, List, slice_index, slice_set}
use Rattle.registers.specs.declared.registers.Registers.{Registers}
use Rattle.registers.specs.declared.trap.Trap.{Trap}
use Rattle.registers.specs.declared.trap.Trap.TheVariants.{Memory, Interrupt, CodeMiss, CodeRights, CodeProtection, Illegal, Privileged, Overflow, Break}
use Rattle.registers.specs.declared.trap.Cause.{Cause}
use Rattle.registers.specs.Status.{status_word, clear_status}
use Rattle.registers.specs.Ranges.{narrow_saved, words_aligned}

-- each trap with its number
abbrev pub trap_number : Trap → ℕ
trap_number Memory = 1
trap_number Interrupt = 2
trap_number CodeMiss = 3
trap_number CodeRights = 4
trap_number CodeProtection = 5
trap_number Illegal = 6
trap_number Privileged = 7
trap_number Overflow = 8
trap_number Break = 15

-- the control registers after a trap: CR17 and CR18 say where it came, CR19 to CR21 why
abbrev pub saved : Registers → Cause → List ℕ
saved s c = slice_set (slice_set (slice_set (slice_set (slice_set s.cr 17 (status_word s.status * 2 ^ 16 + s.segment)) 18 s.offset) 19 c.word) 20 c.segment) 21 c.offset

-- a trap, as one function of the registers before the step and the cause: it saves them, clears the status, and
-- goes on in the handler, 32 bytes for each trap number above CR16
abbrev pub trapped : Registers → Cause → Registers
trapped s c =
    record s {
      cr = saved s c;
      segment = 0;
      offset = (slice_index s.cr 16 + trap_number c.trap * 32) % 2 ^ 32 / 4 * 4;
      status = clear_status;
      narrow = narrow_saved s.cr _ _ _ _ _ s.narrow;
      aligned = words_aligned ((slice_index s.cr 16 + trap_number c.trap * 32) % 2 ^ 32);
    }
