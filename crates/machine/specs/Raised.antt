-- A fault of the machine itself as its calls refuse with it.
use Rattle.refusal.specs.declared.Refused.{Refused}
use Rattle.refusal.specs.declared.Refusal.TheVariants.{Halted as Stopped, TooManySteps as Long, BadTranslation as Bad}
use Rattle.refusal.specs.Numbers.{refused}
use Rattle.machine.specs.declared.fault.MachineFault.{MachineFault}
use Rattle.machine.specs.declared.fault.MachineFault.TheVariants.{Halted, TooManySteps, BadTranslation}

abbrev pub raised : MachineFault → Refused
raised Halted = refused Stopped
raised TooManySteps = refused Long
raised BadTranslation = refused Bad
