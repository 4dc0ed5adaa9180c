-- What each call answers and leaves. A refused call changes nothing.
use Rattle.std.specs.Prelude.{ℕ, ◌+◌, cond, ◌||◌, List, [], ◌∷◌, length, Some, None, Ok, Err, Option, Result, ◌==◌, nat_lt, slice_set}
use Rattle.refusal.specs.declared.Refused.{Refused}
use Rattle.refusal.specs.declared.Refusal.TheVariants.{Halted, TooManySteps, BadTranslation}
use Rattle.refusal.specs.Numbers.{refused}
use Rattle.memory.specs.declared.memory.MemoryFault.{MemoryFault}
use Rattle.memory.specs.Access.{range_answer, range_reading, range_read, written}
use Rattle.memory.specs.Raised.{raised as memory_raised}
use Rattle.tlb.specs.declared.info.Info.{Info}
use Rattle.tlb.specs.declared.translation.Translation.{Translation}
use Rattle.tlb.specs.declared.table.TableFault.{TableFault}
use Rattle.tlb.specs.Info.{info_of}
use Rattle.tlb.specs.Table.{inserting, inserted}
use Rattle.tlb.specs.Raised.{raised as table_raised}
use Rattle.registers.specs.declared.registers.Registers.{Registers}
use Rattle.registers.specs.declared.give.RegisterFault.{RegisterFault}
use Rattle.registers.specs.Access.{with_steps}
use Rattle.registers.specs.Give.{given}
use Rattle.registers.specs.Raised.{raised as register_raised}
use Rattle.machine.specs.declared.fault.MachineFault.{MachineFault}
use Rattle.machine.specs.declared.fault.MachineFault.TheVariants.{Halted as Stopped}
use Rattle.machine.specs.declared.machine.run.Ran.{Ran}
use Rattle.machine.specs.State.{State, Done, with_registers, with_bytes, with_translations}
use Rattle.machine.specs.Step.{turned, taken, run_after, run_count}

abbrev pub Answer : Type 0
Answer = Result (Unit {0}) Refused

abbrev pub refuses : {A : Type 0} → State → Refused → Done (Result A Refused)
refuses s e = record { answer = Err e; state = s }

abbrev pub accepts : {A : Type 0} → A → State → Done (Result A Refused)
accepts a s = record { answer = Ok a; state = s }

-- ---- place

-- the bytes with others put in from a place on
abbrev pub overlaid : List ℕ → ℕ → List ℕ → List ℕ
overlaid bs at [] = bs
overlaid bs at (x ∷ xs) = overlaid (slice_set bs at x) (at + 1) xs

-- one byte written, if memory accepts it
abbrev pub put_byte : ℕ → ℕ → State → State
put_byte at b s = with_bytes s (written s.bytes s.marks 1 at b)

abbrev pub place_by : State → ℕ → List ℕ → Result (Unit {0}) MemoryFault → Done Answer
place_by s at xs (Err f) = refuses s (memory_raised f)
place_by s at xs (Ok u) = accepts tt (with_bytes s (overlaid s.bytes at xs))

unfoldable pub place : ℕ → List ℕ → State → Done Answer
place at xs s = place_by s at xs (range_answer s.bytes s.marks at (length xs))

-- ---- look

abbrev pub look_by : Result (Unit {0}) MemoryFault → Answer
look_by (Err f) = Err (memory_raised f)
look_by (Ok u) = Ok tt

-- what a look at so many bytes answers
unfoldable pub look_answer : ℕ → ℕ → State → Answer
look_answer at n s = look_by (range_reading s.bytes at n)

-- and what it leaves in its buffer; the machine stays as it is
abbrev pub looked : ℕ → List ℕ → State → List ℕ
looked at buffer s = range_read s.bytes at buffer

-- ---- give

abbrev pub give_by : State → Result Registers RegisterFault → Done Answer
give_by s (Err f) = refuses s (register_raised f)
give_by s (Ok r) = accepts tt (with_registers s r)

unfoldable pub give : ℕ → ℕ → ℕ → State → Done Answer
give class number value s = give_by s (given class number value s.registers)

-- ---- map

abbrev pub map_by : State → Translation → Result (Unit {0}) TableFault → Done Answer
map_by s t (Err f) = refuses s (table_raised f)
map_by s t (Ok u) = accepts tt (with_translations s (inserted s.translations s.slots t))

abbrev pub map_info : State → ℕ → ℕ → Option Info → Done Answer
map_info s segment page None = refuses s (refused BadTranslation)
map_info s segment page (Some i) =
    map_by s (record { page = record { segment = segment; number = page }; info = i }) (inserting s.translations s.slots (record { page = record { segment = segment; number = page }; info = i }))

-- no translation is for segment 0, or for a page past the last
unfoldable pub map : ℕ → ℕ → ℕ → State → Done Answer
map segment page word s = cond (segment == 0 || nat_lt 262143 page) (refuses s (refused BadTranslation)) (map_info s segment page (info_of word))

-- ---- step and run

abbrev pub counted : State → ℕ → State
counted s n = with_registers s (with_steps s.registers n)

-- whether a machine makes steps
abbrev pub going : Registers → Result (Unit {0}) MachineFault
going r = cond r.halted (Err Stopped) (Ok tt)

unfoldable pub step : State → Done (Result ℕ Refused)
step s = cond s.registers.halted (refuses s (refused Halted)) (accepts (taken (turned s).answer) (counted (turned s).state 1))

-- the count, and whether the machine has halted
abbrev pub ran : ℕ → State → Ran
ran n s = record { steps = run_count n s; halted = (run_after n s).registers.halted }

unfoldable pub run : ℕ → State → Done (Result Ran Refused)
run n s =
    cond s.registers.halted (refuses s (refused Halted))
    (cond (nat_lt 1000000 n) (refuses s (refused TooManySteps)) (accepts (ran n s) (counted (run_after n s) (run_count n s))))
