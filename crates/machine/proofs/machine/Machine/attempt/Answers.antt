use Rattle.std.proofs.lemmas.Result.{err_from_is_err_and}
use Rattle.machine.specs.Step.{Reaches}
use Rattle.machine.proofs.Going.{attempt_stops, attempt_goes}
use Rattle.machine.proofs.Retaining.{retained_on}
use Rattle.machine.proofs.machine.Machine.attempt.Goals as goal

pub returns-in_err-fetched : goal.returns-in_err-fetched
returns-in_err-fetched g c =
    let p = err_from_is_err_and c.from_residual.result c.from_residual.ensures.1 in
    let fetched = c.in_err-fetched.ensures in
    rw (p.1, p.2) (record { tried = attempt_stops _ _ _ _ _ _ fetched.learned; retained = fetched.retained })

pub returns : goal.returns
returns g c =
    let fetched = c.in_ok-fetched.ensures in
    let performed = c.perform.ensures in
    record { tried = attempt_goes _ _ _ _ _ _ _ _ fetched.learned performed.tried; retained = retained_on _ _ _ Reaches _ _ _ fetched.retained performed.cache }
