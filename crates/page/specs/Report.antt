-- What a machine reports.
use Rattle.std.specs.Prelude.{ℕ, cond, List, length, Ok, Err, Result, nat_lt}
use Rattle.refusal.specs.declared.Refused.{Refused}
use Rattle.refusal.specs.declared.Refusal.TheVariants.{SmallBuffer}
use Rattle.refusal.specs.Numbers.{refused}
use Rattle.registers.specs.declared.registers.Registers.{Registers}
use Rattle.text.specs.Report.{report_text, over}

abbrev pub report_of : Registers → List ℕ
report_of r = report_text r.steps r.halted r.gr

abbrev pub report_answer : Registers → ℕ → Result ℕ Refused
report_answer r size = cond (nat_lt size 256) (Err (refused SmallBuffer)) (Ok (length (report_of r)))

-- the text at the buffer's start, and the rest of it as it was
abbrev pub report_buffer : Registers → List ℕ → List ℕ
report_buffer r buffer = cond (nat_lt (length buffer) 256) buffer (over (report_of r) buffer)
