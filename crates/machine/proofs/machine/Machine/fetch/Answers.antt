use Rattle.std.proofs.lemmas.Result.{err_from_is_err_and}
use Rattle.machine.proofs.Going.{fetch_stops, fetch_misses, fetch_finds}
use Rattle.machine.proofs.Retaining.{retained_barred, retained_reached}
use Rattle.machine.proofs.machine.Machine.fetch.Goals as goal

pub returns-in_err-way : goal.returns-in_err-way
returns-in_err-way g c =
    let p = err_from_is_err_and c.from_residual.result c.from_residual.ensures.1 in
    let barred = c.in_err-way.ensures in
    rw (p.1, p.2) (record { learned = fetch_stops _ _ _ _ _ _ barred; retained = retained_barred _ _ _ _ _ _ _ barred })

pub returns-in_err-decoded : goal.returns-in_err-decoded
returns-in_err-decoded g c =
    let p = err_from_is_err_and c.from_residual-in_err-decoded.result c.from_residual-in_err-decoded.ensures.1 in
    let way = c.in_ok-way.ensures in
    let code = c.in_err-decoded.ensures in
    rw (p.1, p.2) (record { learned = fetch_misses _ _ _ _ _ _ _ way _ code.learned; retained = retained_reached _ _ _ _ _ _ _ way code.retained })

pub returns : goal.returns
returns g c =
    let way = c.in_ok-way.ensures in
    let code = c.in_ok-decoded.ensures in
    record { learned = fetch_finds _ _ _ _ _ _ _ way _ code.learned; retained = retained_reached _ _ _ _ _ _ _ way code.retained }
