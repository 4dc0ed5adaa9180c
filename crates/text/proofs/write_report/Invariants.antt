use Rattle.text.proofs.Rows.{Listed}
use Rattle.text.proofs.write_report.Given as goal

abbrev pub invariant-loop-number : goal.invariant-loop-number
invariant-loop-number l = Listed l.initial.at l.general l.initial.buffer l.buffer l.number l.at
