-- How the current instruction is reached: a chain of checks, of which the first to fail traps.
use Rattle.std.specs.Prelude.{ℕ, ◌+◌, ◌*◌, ◌/◌, ◌%◌, Bool, true, false, cond, not, ◌&&◌, ◌||◌, Some, None, Ok, Err, Option, Result, ◌==◌}
use Rattle.memory.specs.declared.memory.MemoryFault.{MemoryFault}
use Rattle.memory.specs.Access.{reading}
use Rattle.isa.specs.declared.instruction.Instruction.{Instruction}
use Rattle.isa.specs.Decode.{decoded}
use Rattle.decode_cache.specs.declared.cache.Decoded.{Decoded}
use Rattle.tlb.specs.declared.info.Info.{Info}
use Rattle.tlb.specs.declared.page_type.PageType.{PageType}
use Rattle.tlb.specs.declared.page_type.PageType.TheVariants.{ReadOnly, ReadWrite, Execute, Gateway}
use Rattle.tlb.specs.Info.{checked, kind, pl1, pl2, physical}
use Rattle.tlb.specs.Table.{found}
use Rattle.registers.specs.declared.registers.Registers.{Registers}
use Rattle.registers.specs.declared.trap.Trap.{Trap}
use Rattle.registers.specs.declared.trap.Trap.TheVariants.{Memory, CodeMiss, CodeRights, CodeProtection, Illegal}
use Rattle.registers.specs.declared.trap.Cause.{Cause}
use Rattle.registers.specs.Protection.{listed}
use Rattle.machine.specs.declared.way.Way.{Way}
use Rattle.machine.specs.declared.way.Fetched.{Fetched}
use Rattle.machine.specs.State.{State}

-- a check in a chain: where it fails it gives the cause, and what follows is not asked
abbrev pub refuse : {A : Type 0} → Bool → Cause → Result A Cause → Result A Cause
refuse true c x = Err c
refuse false c x = x

-- an access failed at a segment and an offset, before any word was fetched
abbrev pub failed_at : Trap → ℕ → ℕ → Cause
failed_at t segment offset = record { trap = t; segment = segment; offset = offset; word = 0 }

-- an instruction failed by itself
abbrev pub failed : Trap → ℕ → Cause
failed t word = record { trap = t; segment = 0; offset = 0; word = word }

-- the larger of the level and PL2, as numbers of which user level is 1
abbrev pub fetch_level : Bool → Info → Bool
fetch_level user i = user || pl2 i

abbrev pub runs : PageType → Bool
runs ReadOnly = false
runs ReadWrite = false
runs Execute = true
runs Gateway = true

-- a page may be fetched from: its type says so, and that level is no larger than PL1
abbrev pub may_fetch : Bool → Info → Bool
may_fetch user i = runs (kind i) && (not (fetch_level user i) || pl1 i)

-- the segment is no protection id, and the page is checked while checking is on
abbrev pub locked : Registers → ℕ → Info → Bool
locked r segment i = r.status.protect && (checked i && not (listed r segment))

-- through a translation
abbrev pub through : Registers → Option Info → Result Way Cause
through r None = Err (failed_at CodeMiss r.segment r.offset)
through r (Some i) =
    refuse (not (may_fetch r.status.user i)) (failed_at CodeRights r.segment r.offset)
    (refuse (locked r r.segment i) (failed_at CodeProtection r.segment r.offset)
    (Ok (record { user = fetch_level r.status.user i; segment = r.segment; address = physical i * 16384 + r.offset % 16384 })))

-- with no translation: the privileged level takes the offset for the physical address
abbrev pub straight : Registers → Result Way Cause
straight r = refuse r.status.user (failed_at CodeRights r.segment r.offset) (Ok (record { user = false; segment = 0; address = r.offset }))

-- whether code is translated
abbrev pub translates_code : Registers → Bool
translates_code r = not (r.segment == 0) && r.status.code

-- where the current instruction stands, and at which level it runs
unfoldable pub way_of : State → Result Way Cause
way_of s =
    cond (translates_code s.registers) (through s.registers (found s.translations s.registers.segment (s.registers.offset / 16384)))
    (straight s.registers)

abbrev pub by_decoding : ℕ → Option Instruction → Result Decoded Cause
by_decoding w None = Err (failed Illegal w)
by_decoding w (Some i) = Ok (record { word = w; instruction = i })

abbrev pub by_read : Registers → Way → Result ℕ MemoryFault → Result Decoded Cause
by_read r way (Err f) = Err (failed_at Memory way.segment r.offset)
by_read r way (Ok w) = by_decoding w (decoded w)

-- the instruction that memory has there
unfoldable pub code_of : Way → State → Result Decoded Cause
code_of way s = by_read s.registers way (reading s.bytes 4 way.address)

abbrev pub at_way : Way → Result Decoded Cause → Result Fetched Cause
at_way way (Err c) = Err c
at_way way (Ok d) = Ok (record { user = way.user; decoded = d })

abbrev pub by_way : State → Result Way Cause → Result Fetched Cause
by_way s (Err c) = Err c
by_way s (Ok way) = at_way way (code_of way s)

unfoldable pub fetched : State → Result Fetched Cause
fetched s = by_way s (way_of s)
