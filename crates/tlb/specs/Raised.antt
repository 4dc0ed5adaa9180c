-- A fault of a translation table as the calls on a machine refuse with it.
use Rattle.refusal.specs.declared.Refused.{Refused}
use Rattle.refusal.specs.declared.Refusal.TheVariants.{NoFreeSlot}
use Rattle.refusal.specs.Numbers.{refused}
use Rattle.tlb.specs.declared.table.TableFault.{TableFault}
use Rattle.tlb.specs.declared.table.TableFault.TheVariants.{Full}

abbrev pub raised : TableFault → Refused
raised Full = refused NoFreeSlot
