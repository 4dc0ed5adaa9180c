use Rattle.std.proofs.Common.{rules}
use Rattle.machine.proofs.Coherence.{coherent_nothing}
use Rattle.machine.proofs.machine.Machine.new.Goals as goal

pub returns : goal.returns
returns g c = search (rules, coherent_nothing)
