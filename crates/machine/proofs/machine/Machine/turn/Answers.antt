use Rattle.std.proofs.Common.{refl}
use Rattle.machine.proofs.Going.{turn_interrupted, turn_done, turn_trapped}
use Rattle.machine.proofs.Retaining.{retained_interrupted, retained_stepped}
use Rattle.machine.proofs.machine.Machine.turn.Goals as goal

pub returns-in-Some : goal.returns-in-Some
returns-in-Some g c =
    let line = c.in-Some.ensures.value in
    record {
      did = turn_interrupted _ _ _ _ _ _ _ _ _ refl line c.take_line.ensures.after refl c.trap.ensures;
      retained = retained_interrupted _ _ _ _ _ _ line;
    }

pub returns-in-Ok : goal.returns-in-Ok
returns-in-Ok g c =
    let none = c.in_default.ensures.value in
    let kept = c.take_line.ensures.after in
    let attempted = c.in-Ok.ensures in
    record { did = turn_done _ _ _ _ _ _ none kept attempted.tried; retained = retained_stepped _ _ _ _ _ _ none kept attempted.retained }

pub returns-in-Err : goal.returns-in-Err
returns-in-Err g c =
    let none = c.in_default.ensures.value in
    let kept = c.take_line.ensures.after in
    let attempted = c.in-Err.ensures in
    record {
      did = turn_trapped _ _ _ _ _ _ none kept _ _ _ attempted.tried refl c.trap-in-Err.ensures;
      retained = retained_stepped _ _ _ _ _ _ none kept attempted.retained;
    }
