use Rattle.std.proofs.Common.{rules}
use Rattle.registers.proofs.Lines.{line_within}
use Rattle.registers.proofs.registers.Registers.take_line.Goals as goal

pub overflow_sub-self : goal.overflow_sub-self
overflow_sub-self c = line_within _ _ (search rules) c.if-open-gt0.true
