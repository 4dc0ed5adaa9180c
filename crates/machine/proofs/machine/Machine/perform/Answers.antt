use Rattle.std.proofs.Common.{◌≡◌, false, ◌&&◌, sym, refl, ◌∙◌}
use Rattle.std.proofs.lemmas.Bool.{and_from, and_left, and_right}
use Rattle.registers.specs.Finish.{privileged}
use Rattle.machine.proofs.Stepping.{performed_privileged, performed_done, performed_failed, level_restored}
use Rattle.machine.proofs.Going.{tried_registers, tried_nothing}
use Rattle.machine.proofs.machine.Machine.perform.Goals as goal
use Rattle.machine.proofs.machine.Machine.perform.Goals.{else-fetched-via-then-fetched+else-privileged, else-fetched-via-else-fetched}

pub returns-then-privileged : goal.returns-then-privileged
returns-then-privileged g c =
    let starred = and_from _ _ c.if-fetched.true (sym c.privileged.ensures ∙ c.if-privileged.true) in
    record { tried = tried_nothing _ _ _ _ _ _ _ refl (performed_privileged _ c.args.fetched _ starred c.failed.ensures); cache = refl }

pub returns-in-Ok : goal.returns-in-Ok
returns-in-Ok g c =
    let f = c.args.fetched in
    let free : (f.user && privileged f.decoded.instruction) ≡ false =
    elim c.else-fetched.branch [ else-fetched-via-then-fetched+else-privileged w ↦ and_right _ _ (sym w.privileged.ensures ∙ w.if-privileged.false) | else-fetched-via-else-fetched w ↦ and_left _ _ w.if-fetched.false ] in
    record { tried = tried_registers _ _ _ _ _ _ (performed_done _ f _ _ free c.set_level.ensures c.finish.ensures.after c.in-Ok.ensures.value); cache = refl }

pub returns-in-Err : goal.returns-in-Err
returns-in-Err g c =
    let f = c.args.fetched in
    let free : (f.user && privileged f.decoded.instruction) ≡ false =
    elim c.else-fetched.branch [ else-fetched-via-then-fetched+else-privileged w ↦ and_right _ _ (sym w.privileged.ensures ∙ w.if-privileged.false) | else-fetched-via-else-fetched w ↦ and_left _ _ w.if-fetched.false ] in
    let said = c.in-Err.ensures.value in
    let back = level_restored c.args.self.now.registers f _ _ _ _ _ c.set_level.ensures c.finish.ensures.after said c.user-before.ensures c.set_level-in-Err.ensures in
    record { tried = tried_nothing _ _ _ _ _ _ _ back (performed_failed _ f _ _ _ free c.set_level.ensures said c.failed-in-Err.ensures); cache = refl }
