-- A fault in the choice of a register as the calls on a machine refuse with it.
use Rattle.refusal.specs.declared.Refused.{Refused}
use Rattle.refusal.specs.declared.Refusal.TheVariants.{NoSuchRegister as NoRegister, BadValue as Bad}
use Rattle.refusal.specs.Numbers.{refused}
use Rattle.registers.specs.declared.give.RegisterFault.{RegisterFault}
use Rattle.registers.specs.declared.give.RegisterFault.TheVariants.{NoSuchRegister, BadValue}

abbrev pub raised : RegisterFault → Refused
raised NoSuchRegister = refused NoRegister
raised BadValue = refused Bad
