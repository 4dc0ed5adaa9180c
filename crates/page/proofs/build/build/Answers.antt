use Rattle.std.proofs.Common.{length, ap, ◌∙◌, arith}
use Rattle.std.proofs.lemmas.Result.{err_from_is_err_and}
use Rattle.tlb.specs.declared.slot_list.SlotList.{SlotList}
use Rattle.tlb.specs.Slots.{usable}
use Rattle.page.proofs.Pages.{unknown_mode, some_mode, bad_size, small_buffer, too_long, printed}
use Rattle.page.proofs.build.build.Goals as goal

pub returns-in_err-mode : goal.returns-in_err-mode
returns-in_err-mode c =
    let p = err_from_is_err_and c.from_residual.result c.from_residual.ensures.1 in
    rw p.1 (unknown_mode c.args.mode c.args.steps c.args.image.now c.args.memory.now c.args.report.now _ _ c.in_err-mode.ensures p.2)

pub returns-in_err-check : goal.returns-in_err-check
returns-in_err-check c =
    let known = some_mode c.args.mode _ c.in_ok-mode.ensures in
    let p = err_from_is_err_and c.from_residual-in_err-check.result c.from_residual-in_err-check.ensures.1 in
    rw p.1 (bad_size c.args.mode c.args.steps c.args.image.now c.args.memory.now c.args.report.now known _ _ c.in_err-check.ensures p.2)

pub returns-then-report-lt-LEAST : goal.returns-then-report-lt-LEAST
returns-then-report-lt-LEAST c =
    let known = some_mode c.args.mode _ c.in_ok-mode.ensures in
    small_buffer c.args.mode c.args.steps c.args.image.now c.args.memory.now c.args.report.now known c.in_ok-check.ensures _ c.if-report-lt-LEAST.true c.into.ensures

pub returns-then-steps-gt-MOST_STEPS : goal.returns-then-steps-gt-MOST_STEPS
returns-then-steps-gt-MOST_STEPS c =
    let known = some_mode c.args.mode _ c.in_ok-mode.ensures in
    too_long c.args.mode c.args.steps c.args.image.now c.args.memory.now c.args.report.now known c.in_ok-check.ensures c.if-report-lt-LEAST.false _ c.if-steps-gt-MOST_STEPS.true c.into-then-steps-gt-MOST_STEPS.ensures

pub returns-in-Full : goal.returns-in-Full
returns-in-Full c =
    let known = some_mode c.args.mode _ c.in_ok-mode.ensures in
    let slots = ap (λ rs. length (usable rs)) c.new-slots.ensures.records in
    printed c.args.mode c.args.steps c.args.image.now c.args.memory.now c.args.report.now known c.in_ok-check.ensures c.if-report-lt-LEAST.false _ _ _ _ slots c.if-steps-gt-MOST_STEPS.false (omega arith) c.drive_bytes.ensures

pub returns-in-Fast : goal.returns-in-Fast
returns-in-Fast c =
    let known = some_mode c.args.mode _ c.in_ok-mode.ensures in
    let slots = ap (λ (t : SlotList). length (usable t.records.now)) c.new.ensures.table ∙ ap (λ rs. length (usable rs)) c.new-slots.ensures.records in
    printed c.args.mode c.args.steps c.args.image.now c.args.memory.now c.args.report.now known c.in_ok-check.ensures c.if-report-lt-LEAST.false _ _ _ _ slots c.if-steps-gt-MOST_STEPS.false (omega arith) c.drive_bytes-in-Fast.ensures
