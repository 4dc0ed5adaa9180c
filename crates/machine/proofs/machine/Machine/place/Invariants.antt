use Rattle.machine.proofs.Placing.{Placing}
use Rattle.machine.proofs.machine.Machine.place.Given as goal

abbrev pub invariant-loop-i : goal.invariant-loop-i
invariant-loop-i g l = Placing g.M.Memory g.T.Tlb g.C.DecodeCache l.address l.i l.bytes l.initial.self l.self
