-- Registers by class and number, as they are named from outside.
use Rattle.std.specs.Prelude.{ℕ, ◌%◌, ◌^◌, Bool, true, cond, Some, None, Ok, Err, Option, Result, ◌==◌, nat_lt}
use Rattle.registers.specs.declared.registers.Registers.{Registers}
use Rattle.registers.specs.declared.give.Register.{Register}
use Rattle.registers.specs.declared.give.Register.TheVariants.{General, Space, Control, Segment, Offset, StatusWord, Pending}
use Rattle.registers.specs.declared.give.RegisterFault.{RegisterFault}
use Rattle.registers.specs.declared.give.RegisterFault.TheVariants.{NoSuchRegister, BadValue}
use Rattle.registers.specs.Status.{status_word, status_of}
use Rattle.registers.specs.Access.{put_general, put_space, put_control, with_segment, with_offset, with_status, with_pending}

abbrev pub only_below : ℕ → ℕ → Register → Option Register
only_below limit number r = cond (nat_lt number limit) (Some r) None

-- class 3 is the address of the current instruction, the status and the pending lines
abbrev pub special : ℕ → Option Register
special number =
    cond (number == 0) (Some Segment)
    (cond (number == 1) (Some Offset)
    (cond (number == 2) (Some StatusWord)
    (cond (number == 3) (Some Pending)
    None)))

-- the register of a class and a number
abbrev pub register_of : ℕ → ℕ → Option Register
register_of class number =
    cond (class == 0) (only_below 16 number (General number))
    (cond (class == 1) (only_below 8 number (Space number))
    (cond (class == 2) (only_below 32 number (Control number))
    (cond (class == 3) (special number)
    None)))

-- whether a 32-bit value is one that the register can have
abbrev pub fits : Register → ℕ → Bool
fits (General n) v = true
fits (Space n) v = nat_lt v (2 ^ 16)
fits (Control n) v = cond (n == 2) (nat_lt v 32) true
fits Segment v = nat_lt v (2 ^ 16)
fits Offset v = true
fits StatusWord v = status_word (status_of v) == v
fits Pending v = true

abbrev pub put : Registers → Register → ℕ → Registers
put s (General n) v = put_general s n v
put s (Space n) v = put_space s n v
put s (Control n) v = put_control s n v
put s Segment v = with_segment s (v % 2 ^ 16)
put s Offset v = with_offset s v
put s StatusWord v = with_status s (status_of v)
put s Pending v = with_pending s v

abbrev pub put_if_fits : Registers → ℕ → Option Register → Result Registers RegisterFault
put_if_fits s v None = Err NoSuchRegister
put_if_fits s v (Some r) = cond (fits r v) (Ok (put s r v)) (Err BadValue)

-- a register set from outside, or why not
abbrev pub given : ℕ → ℕ → ℕ → Registers → Result Registers RegisterFault
given class number value s = put_if_fits s value (register_of class number)
