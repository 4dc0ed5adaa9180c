use Rattle.std.proofs.Common.{◌≡◌, rules}
use Rattle.std.proofs.lemmas.Result.{err_from_is_err_and}
use Rattle.machine.specs.Step.{taken}
use Rattle.machine.proofs.Running.{not_going, still_going, step_halted, step_goes}
use Rattle.machine.proofs.Retaining.{retained_halted}
use Rattle.machine.proofs.machine.Machine.step.Goals as goal

pub returns-in_err-going : goal.returns-in_err-going
returns-in_err-going g c =
    let off = not_going c.args.self.now.registers _ c.in_err-going.ensures in
    let p = err_from_is_err_and c.from_residual.result c.from_residual.ensures.1 in
    rw (p.1, p.2, off.1) (record { did = step_halted _ _ _ _ off.0; retained = retained_halted _ _ _ _ _ off.0 })

pub returns : goal.returns
returns g c =
    let turned = c.turn-taken.ensures in
    let number : c.map_or.result ≡ taken c.turn-taken.result = search rules in
    record { did = step_goes _ _ _ _ _ _ _ _ (still_going c.args.self.now.registers c.in_ok-going.ensures) turned.did number c.set_steps.ensures; retained = turned.retained }
