-- A step: an interrupt, or an instruction that is fetched and does its work, or a trap.
use Rattle.std.specs.Prelude.{◌≡◌, ℕ, zero, suc, ◌+◌, false, cond, ◌&&◌, Some, None, Ok, Err, Option, Result}
use Rattle.decode_cache.specs.declared.cache.Decoded.{Decoded}
use Rattle.registers.specs.declared.registers.Registers.{Registers}
use Rattle.registers.specs.declared.trap.Trap.{Trap}
use Rattle.registers.specs.declared.trap.Trap.TheVariants.{Interrupt, Privileged}
use Rattle.registers.specs.declared.trap.Cause.{Cause}
use Rattle.registers.specs.Access.{at_level}
use Rattle.registers.specs.Finish.{finished, privileged}
use Rattle.registers.specs.Interrupts.{open_line, line_cleared, interrupt}
use Rattle.registers.specs.Trap.{trap_number, trapped}
use Rattle.machine.specs.declared.way.Way.{Way}
use Rattle.machine.specs.declared.way.Fetched.{Fetched}
use Rattle.machine.specs.State.{State, Done, with_registers}
use Rattle.machine.specs.Reach.{refuse, failed, way_of, code_of, fetched}

abbrev pub by_finish : State → ℕ → Result Registers Trap → Result State Cause
by_finish s w (Ok r) = Ok (with_registers s r)
by_finish s w (Err t) = Err (failed t w)

-- the work of an instruction, at the level that its fetch gave
unfoldable pub performed : Fetched → State → Result State Cause
performed f s =
    refuse (f.user && privileged f.decoded.instruction) (failed Privileged f.decoded.word)
    (by_finish s f.decoded.word (finished (at_level s.registers f.user) f.decoded.instruction))

abbrev pub by_fetch : State → Result Fetched Cause → Result State Cause
by_fetch s (Err c) = Err c
by_fetch s (Ok f) = performed f s

-- an instruction fetched and performed, or the first cause against it
unfoldable pub attempted : State → Result State Cause
attempted s = by_fetch s (fetched s)

-- a cause traps with the registers as they were before the step
abbrev pub settled : State → Result State Cause → Done (Option Trap)
settled s (Ok t) = record { answer = None; state = t }
settled s (Err c) = record { answer = Some c.trap; state = with_registers s (trapped s.registers c) }

abbrev pub by_line : State → Option ℕ → Done (Option Trap)
by_line s None = settled s (attempted s)
by_line s (Some n) = record { answer = Some Interrupt; state = with_registers s (trapped (line_cleared s.registers n) (interrupt n)) }

-- one step, and the trap that it took, if it took one
unfoldable pub turned : State → Done (Option Trap)
turned s = by_line s (open_line s.registers)

-- the number of the trap that was taken, or 0
abbrev pub taken : Option Trap → ℕ
taken None = 0
taken (Some t) = trap_number t

-- ---- what a step fetches

-- an instruction is what memory has where a way leads
pub record StandsAt (way : Way) (s : State) (address : ℕ) (d : Decoded) : Type 0 where
  pub placed : way.address ≡ address
  pub read : code_of way s ≡ Ok d

-- the current instruction, under its physical address
pub record Reaches (s : State) (address : ℕ) (d : Decoded) : Type 0 where
  pub way : Way
  pub reached : way_of s ≡ Ok way
  pub stands : StandsAt way s address d

-- the instruction that a step fetches: the machine runs, no line interrupts it, and the current instruction can be reached
pub record Fetches (s : State) (address : ℕ) (d : Decoded) : Type 0 where
  pub running : s.registers.halted ≡ false
  pub calm : open_line s.registers ≡ None
  pub reaches : Reaches s address d

-- ---- steps one after another

-- so many steps, or fewer where the machine halts
abbrev pub run_after : ℕ → State → State
run_after zero s = s
run_after (suc n) s = cond s.registers.halted s (run_after n (turned s).state)

-- how many steps that makes
abbrev pub run_count : ℕ → State → ℕ
run_count zero s = 0
run_count (suc n) s = cond s.registers.halted 0 (1 + run_count n (turned s).state)
