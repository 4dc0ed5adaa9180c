use Rattle.std.proofs.Common.{refl, rules}
use Rattle.std.proofs.lemmas.Result.{err_from_is_err_and}
use Rattle.machine.proofs.Placing.{place_refused, place_goes, place_ends}
use Rattle.machine.proofs.machine.Machine.place.Goals as goal

pub returns-in_err-check_range : goal.returns-in_err-check_range
returns-in_err-check_range g c =
    let p = err_from_is_err_and c.from_residual.result c.from_residual.ensures.1 in
    rw p.1 (place_refused _ _ _ _ _ _ _ _ c.in_err-check_range.ensures p.2)

pub loop-i-init : goal.loop-i-init
loop-i-init g c = record { state = λ _. refl; sound = λ s. s; same = refl }

pub loop-i-preserved : goal.loop-i-preserved
loop-i-preserved g c = place_goes _ _ _ _ _ _ c.in_ok-check_range.ensures _ _ _ c.loop-i-test.true (search rules) c.loop-i.invariant c.put_byte.ensures

pub returns : goal.returns
returns g c = place_ends _ _ _ _ _ _ c.in_ok-check_range.ensures _ _ c.loop-i-test.false c.loop-i.invariant
