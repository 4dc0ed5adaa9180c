use Rattle.std.proofs.Common.{◌≡◌, ◌≤◌, true, ◌⊎◌, sym, refl, ◌∙◌, inl, inr, arith}
use Rattle.std.proofs.lemmas.Result.{err_from_is_err_and}
use Rattle.machine.proofs.Running.{not_going, still_going, run_halted, run_too_long, run_goes, run_ends}
use Rattle.machine.proofs.machine.Machine.run.Goals as goal
use Rattle.machine.proofs.machine.Machine.run.Goals.{then-loop-left-test+else-not-halted, else-loop-left-test}

pub returns-in_err-going : goal.returns-in_err-going
returns-in_err-going g c =
    let off = not_going c.args.self.now.registers _ c.in_err-going.ensures in
    let p = err_from_is_err_and c.from_residual.result c.from_residual.ensures.1 in
    rw (p.1, p.2, off.1) (run_halted _ _ _ _ _ off.0)

pub returns-then-n-gt-MOST_STEPS : goal.returns-then-n-gt-MOST_STEPS
returns-then-n-gt-MOST_STEPS g c =
    rw c.into.ensures (run_too_long _ _ _ _ _ (still_going c.args.self.now.registers c.in_ok-going.ensures) c.if-n-gt-MOST_STEPS.true)

pub loop-left-init : goal.loop-left-init
loop-left-init g c = record { within = omega arith; after = λ _. refl; count = λ _. omega arith; sound = λ s. s; same = refl }

pub loop-left-preserved : goal.loop-left-preserved
loop-left-preserved g c =
    run_goes _ _ _ _ _ _ _ _ _ c.loop-left-test.true (sym c.halted.ensures ∙ c.if-not-halted.true) c.loop-left.invariant c.turn.ensures.did

pub returns : goal.returns
returns g c =
    let on = still_going c.args.self.now.registers c.in_ok-going.ensures in
    let over : (c.loop-left.left ≤ 0) ⊎ (c.loop-left.self.registers.halted ≡ true) =
    elim c.loop-left-test.branch [ then-loop-left-test+else-not-halted w ↦ inr (sym w.halted.ensures ∙ w.if-not-halted.false) | else-loop-left-test w ↦ inl w.loop-left-test.false ] in
    run_ends _ _ _ _ _ _ _ _ _ on c.if-n-gt-MOST_STEPS.false over c.loop-left.invariant c.set_steps.ensures c.halted-2.ensures
