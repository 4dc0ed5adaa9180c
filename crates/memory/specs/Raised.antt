-- A fault of memory as the calls on a machine refuse with it.
use Rattle.refusal.specs.declared.Refused.{Refused}
use Rattle.refusal.specs.declared.Refusal.TheVariants.{OutsideMemory, ReadOnlyPage}
use Rattle.refusal.specs.Numbers.{refused}
use Rattle.memory.specs.declared.memory.MemoryFault.{MemoryFault}
use Rattle.memory.specs.declared.memory.MemoryFault.TheVariants.{Outside, ReadOnly}

abbrev pub raised : MemoryFault → Refused
raised Outside = refused OutsideMemory
raised ReadOnly = refused ReadOnlyPage
