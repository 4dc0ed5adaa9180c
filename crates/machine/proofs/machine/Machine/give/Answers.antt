use Rattle.std.proofs.lemmas.Result.{err_from_is_err_and}
use Rattle.machine.proofs.Setting.{give_done, give_refused}
use Rattle.machine.proofs.machine.Machine.give.Goals as goal

pub returns-in_err-give : goal.returns-in_err-give
returns-in_err-give g c =
    let p = err_from_is_err_and c.from_residual.result c.from_residual.ensures.1 in
    rw p.1 (give_refused _ _ _ _ _ _ _ _ c.give.ensures.after _ _ c.in_err-give.ensures.value p.2)

pub returns : goal.returns
returns g c = give_done _ _ _ _ _ _ _ _ c.give.ensures.after c.in_ok-give.ensures.value
