use Rattle.std.proofs.Common.{◌≡◌, ◌≤◌, length, Ok, ap, ◌∙◌, arith}
use Rattle.std.proofs.lemmas.Bool.{cond_above}
use Rattle.text.specs.Report.{report_text}
use Rattle.text.proofs.Rows.{listed_first, listed_none, listed_row, listed_all}
use Rattle.text.proofs.write_report.Goals as goal
use Rattle.text.proofs.write_report.Goals.{then-general-number-ne0, else-general-number-ne0}

pub loop-number-init : goal.loop-number-init
loop-number-init c = listed_first _ _ _

pub loop-number-preserved : goal.loop-number-preserved
loop-number-preserved c =
    elim c.if-general-number-ne0.branch [
      | then-general-number-ne0 w ↦
          listed_row _ _ _ _ _ _ _ _ _ c.loop-number.auto.number (omega arith) w.if-general-number-ne0.true w.register_row.ensures (w.buffer-is ∙ w.put-at.ensures.after) (w.at-is ∙ w.put-at.ensures.place) c.loop-number.invariant
      | else-general-number-ne0 w ↦
          listed_none _ _ _ _ _ _ _ _ c.loop-number.auto.number w.if-general-number-ne0.false w.buffer-is w.at-is c.loop-number.invariant
    ]

pub returns : goal.returns
unfolding report_text
returns c =
    let room : 256 ≤ length c.args.buffer.now = omega arith in
    let end : c.loop-number.number ≡ 16 = omega arith in
    let whole = listed_all _ _ c.args.buffer.now _ _ _ _ _ end c.put_head-at.ensures.place c.put_head-at.ensures.after c.loop-number.invariant in
    record {
      answer = cond_above (length c.args.buffer.now) 256 _ _ _ room (ap Ok whole.0);
      buffer = cond_above (length c.args.buffer.now) 256 _ _ _ room whole.1;
      short = omega (arith, c.loop-number.invariant.room, c.put_head-at.ensures.short);
    }
