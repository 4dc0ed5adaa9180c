use Rattle.machine.proofs.Running.{Running}
use Rattle.machine.proofs.machine.Machine.run.Given as goal

abbrev pub invariant-loop-left : goal.invariant-loop-left
invariant-loop-left g l = Running g.M.Memory g.T.Tlb g.C.DecodeCache l.n l.left l.initial.self l.self

abbrev pub decreases-loop-left : goal.decreases-loop-left
decreases-loop-left g l = l.left
