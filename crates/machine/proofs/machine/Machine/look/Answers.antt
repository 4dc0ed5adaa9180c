use Rattle.std.proofs.Common.{Err, ap, ◌∙◌}
use Rattle.std.proofs.lemmas.Result.{err_from_is_err_and}
use Rattle.machine.specs.Calls.{look_by, look_answer}
use Rattle.machine.proofs.machine.Machine.look.Goals as goal

pub returns-in_err-read_range : goal.returns-in_err-read_range
unfolding look_answer
returns-in_err-read_range g c =
    let p = err_from_is_err_and c.from_residual.result c.from_residual.ensures.1 in
    let r = c.in_err-read_range.ensures in
    record { answer = p.1 ∙ ap Err p.2 ∙ ap look_by r.answer; buffer = r.buffer }

pub returns : goal.returns
unfolding look_answer
returns g c =
    let r = c.in_ok-read_range.ensures in
    record { answer = ap look_by r.answer; buffer = r.buffer }
