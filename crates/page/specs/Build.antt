-- What a build answers, and what it leaves in memory and in the report. The page does not depend on the mode.
use Rattle.std.specs.Prelude.{ℕ, cond, not, List, length, Ok, Err, Result, nat_lt}
use Rattle.refusal.specs.declared.Refusal.{Refusal}
use Rattle.refusal.specs.declared.Refusal.TheVariants.{UnknownMode, BadSize, SmallBuffer, TooManySteps}
use Rattle.refusal.specs.declared.Refused.{Refused}
use Rattle.memory.specs.Pages.{well_sized, unmarked}
use Rattle.image.specs.declared.LoadRefused.{LoadRefused}
use Rattle.machine.specs.State.{State, fresh}
use Rattle.machine.specs.Calls.{run}
use Rattle.loader.specs.Load.{load}
use Rattle.page.specs.declared.refused.BuildRefused.{BuildRefused}
use Rattle.page.specs.Refused.{by_itself, by_record, refusal_number}
use Rattle.page.specs.Report.{report_answer, report_buffer}

-- a report's length or why there is none, with the memory and the report buffer afterwards
pub record Outcome : Type 0 where
  pub answer : Result ℕ BuildRefused
  pub memory : List ℕ
  pub report : List ℕ

abbrev pub refuses : Refusal → List ℕ → List ℕ → Outcome
refuses r memory report = record { answer = Err (by_itself r); memory = memory; report = report }

abbrev pub by_report : Result ℕ Refused → Result ℕ BuildRefused
by_report (Ok n) = Ok n
by_report (Err e) = Err (by_itself e.refusal)

-- a machine that has run reports
abbrev pub reported : List ℕ → State → Outcome
reported report s = record { answer = by_report (report_answer s.registers (length report)); memory = s.bytes; report = report_buffer s.registers report }

abbrev pub ran_and_reported : ℕ → List ℕ → State → Outcome
ran_and_reported steps report s = reported report (run steps s).state

-- a machine that was loaded runs; where loading was refused, the bytes placed by then stay
abbrev pub after_load : ℕ → List ℕ → Result (Unit {0}) LoadRefused → State → Outcome
after_load steps report (Ok u) s = ran_and_reported steps report s
after_load steps report (Err e) s = record { answer = Err (by_record e); memory = s.bytes; report = report }

unfoldable pub driven : ℕ → List ℕ → List ℕ → State → Outcome
driven steps image report s = after_load steps report (load image s).answer (load image s).state

-- an image printed over a memory of the caller, with 16 slots
unfoldable pub printing : ℕ → List ℕ → List ℕ → List ℕ → Outcome
printing steps image memory report =
    cond (not (well_sized (length memory))) (refuses BadSize memory report)
    (cond (nat_lt (length report) 256) (refuses SmallBuffer memory report)
    (cond (nat_lt 1000000 steps) (refuses TooManySteps memory report)
    (driven steps image report (fresh memory (unmarked memory) 16))))

-- a full build is mode 0, a fast one mode 1
unfoldable pub building : ℕ → ℕ → List ℕ → List ℕ → List ℕ → Outcome
building mode steps image memory report = cond (nat_lt 1 mode) (refuses UnknownMode memory report) (printing steps image memory report)

-- ---- the same with a number for the answer, as a program outside has it

pub record Page : Type 0 where
  pub answer : ℕ
  pub memory : List ℕ
  pub report : List ℕ

abbrev pub told : Result ℕ BuildRefused → ℕ
told (Ok n) = n
told (Err e) = refusal_number e

abbrev pub page_of : Outcome → Page
page_of o = record { answer = told o.answer; memory = o.memory; report = o.report }

abbrev pub page : ℕ → List ℕ → List ℕ → List ℕ → Page
page steps image memory report = page_of (printing steps image memory report)

abbrev pub built : ℕ → ℕ → List ℕ → List ℕ → List ℕ → Page
built mode steps image memory report = page_of (building mode steps image memory report)
