use Rattle.image.specs.Parsed.{given}
use Rattle.loader.proofs.Loading.{Loading}
use Rattle.loader.proofs.load.Given as goal

abbrev pub invariant-loop-placed : goal.invariant-loop-placed
invariant-loop-placed g l = Loading g.M.Memory g.T.Tlb g.C.DecodeCache l.image (given l.placed-iterator) l.initial.machine l.machine
