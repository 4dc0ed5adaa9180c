use Rattle.std.proofs.Common.{rules}
use Rattle.memory.specs.Access.{reading}
use Rattle.memory.proofs.lent.read.Goals as goal

pub returns-then-fits-clause-value : goal.returns-then-fits-clause-value
unfolding reading
returns-then-fits-clause-value c = search rules

pub returns-else-fits-clause-value : goal.returns-else-fits-clause-value
unfolding reading
returns-else-fits-clause-value c = search rules
