-- The work of an instruction, and how a step ends, in the state alone.
use Rattle.std.proofs.Common.{◌≡◌, ℕ, Bool, true, false, ◌&&◌, Some, None, Ok, Err, Option, Result, sym, ap, ◌∙◌}
use Rattle.registers.specs.declared.registers.Registers.{Registers}
use Rattle.registers.specs.declared.trap.Trap.{Trap}
use Rattle.registers.specs.declared.trap.Trap.TheVariants.{Interrupt, Privileged}
use Rattle.registers.specs.declared.trap.Cause.{Cause}
use Rattle.registers.specs.Access.{at_level}
use Rattle.registers.specs.Finish.{finished, privileged}
use Rattle.registers.specs.Tried.{ends, says}
use Rattle.registers.proofs.Tried.{tried_done, tried_failed, tried_stays}
use Rattle.registers.specs.Interrupts.{open_line, line_cleared, interrupt}
use Rattle.registers.specs.Trap.{trapped}
use Rattle.machine.specs.declared.way.Fetched.{Fetched}
use Rattle.machine.specs.State.{State, with_registers}
use Rattle.machine.specs.Reach.{refuse, failed}
use Rattle.machine.specs.Step.{by_finish, performed, settled, by_line, attempted, turned}

-- ---- the work of an instruction

module _ (s : State) (f : Fetched) where
  abbrev level : Registers
  level = at_level s.registers f.user

  abbrev work : Result Registers Trap
  work = finished level f.decoded.instruction

  pub performed_privileged : (c : Cause) → (f.user && privileged f.decoded.instruction) ≡ true → c ≡ failed Privileged f.decoded.word → Err c ≡ performed f s
  unfolding performed
  performed_privileged c starred is = ap Err is ∙ sym (ap (λ (b : Bool). refuse b (failed Privileged f.decoded.word) (by_finish s f.decoded.word work)) starred)

  allowed : (f.user && privileged f.decoded.instruction) ≡ false → performed f s ≡ by_finish s f.decoded.word work
  unfolding performed
  allowed free = ap (λ (b : Bool). refuse b (failed Privileged f.decoded.word) (by_finish s f.decoded.word work)) free

  pub performed_done : (p q : Registers) → (f.user && privileged f.decoded.instruction) ≡ false → p ≡ level → q ≡ ends p (finished p f.decoded.instruction) → Ok tt ≡ says (finished p f.decoded.instruction) → Ok (with_registers s q) ≡ performed f s
  performed_done p q free leveled after said =
      ap (λ (r : Registers). Ok (with_registers s r)) after ∙
      sym (ap (by_finish s f.decoded.word) (tried_done p (finished p f.decoded.instruction) said)) ∙
      ap (λ (r : Registers). by_finish s f.decoded.word (finished r f.decoded.instruction)) leveled ∙
      sym (allowed free)

  pub performed_failed : (p : Registers) (t : Trap) (c : Cause) → (f.user && privileged f.decoded.instruction) ≡ false → p ≡ level → Err t ≡ says (finished p f.decoded.instruction) → c ≡ failed t f.decoded.word → Err c ≡ performed f s
  performed_failed p t c free leveled said is =
      ap Err is ∙
      sym (ap (by_finish s f.decoded.word) (tried_failed t (finished p f.decoded.instruction) said)) ∙
      ap (λ (r : Registers). by_finish s f.decoded.word (finished r f.decoded.instruction)) leveled ∙
      sym (allowed free)

-- the level of before is put back after a trap
pub level_restored : (s : Registers) (f : Fetched) (p q r : Registers) (t : Trap) (before : Bool) → p ≡ at_level s f.user → q ≡ ends p (finished p f.decoded.instruction) → Err t ≡ says (finished p f.decoded.instruction) → before ≡ s.status.user → r ≡ at_level q before → r ≡ s
level_restored s f p q r t before leveled after said was is =
    let stays : q ≡ at_level s f.user = after ∙ tried_stays p t _ said ∙ leveled in
    is ∙ ap (λ (b : Bool). at_level q b) was ∙ ap (λ (x : Registers). at_level x s.status.user) stays

-- ---- how a step ends

module _ (s : State) where
  pub turned_interrupt : (n : ℕ) (k : Option Trap) (r : Registers) → Some n ≡ open_line s.registers → k ≡ Some Interrupt → r ≡ trapped (line_cleared s.registers n) (interrupt n) → record { answer = k; state = with_registers s r } ≡ turned s
  unfolding turned
  turned_interrupt n k r line number is =
      ap (λ (m : Option Trap). record { answer = m; state = with_registers s r }) number ∙ ap (λ (q : Registers). record { answer = Some Interrupt; state = with_registers s q }) is ∙ ap (by_line s) line

  pub turned_done : (t : State) → None ≡ open_line s.registers → attempted s ≡ Ok t → record { answer = None; state = t } ≡ turned s
  unfolding turned
  turned_done t none done = sym (ap (settled s) done) ∙ ap (by_line s) none

  pub turned_trapped : (c : Cause) (n : Option Trap) (r : Registers) → None ≡ open_line s.registers → attempted s ≡ Err c → n ≡ Some c.trap → r ≡ trapped s.registers c → record { answer = n; state = with_registers s r } ≡ turned s
  unfolding turned
  turned_trapped c n r none failed number is =
      ap (λ (k : Option Trap). record { answer = k; state = with_registers s r }) number ∙ ap (λ (q : Registers). record { answer = Some c.trap; state = with_registers s q }) is ∙
      sym (ap (settled s) failed) ∙ ap (by_line s) none
