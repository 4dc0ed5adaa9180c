-- Each refusal with its number, and with the layer that it arises in.
use Rattle.std.specs.Prelude.{ℕ}
use Rattle.refusal.specs.declared.Refusal.{Refusal}
use Rattle.refusal.specs.declared.Refusal.TheVariants.{UnknownMode, BadSize, SmallBuffer, Halted, TooManySteps, NoSuchRegister, BadValue, NoSuchLine, OutsideMemory, ReadOnlyPage, BadTranslation, NoFreeSlot, BadImage, CutRecord, UnknownRecord, BadEnd}
use Rattle.refusal.specs.declared.Layer.{Layer}
use Rattle.refusal.specs.declared.Layer.TheVariants.{Machine, Memory, Table, Image}
use Rattle.refusal.specs.declared.Refused.{Refused}

abbrev pub number_of : Refusal → ℕ
number_of UnknownMode = 1
number_of BadSize = 2
number_of SmallBuffer = 3
number_of Halted = 4
number_of TooManySteps = 5
number_of NoSuchRegister = 6
number_of BadValue = 7
number_of NoSuchLine = 8
number_of OutsideMemory = 9
number_of ReadOnlyPage = 10
number_of BadTranslation = 11
number_of NoFreeSlot = 12
number_of BadImage = 13
number_of CutRecord = 14
number_of UnknownRecord = 15
number_of BadEnd = 16

abbrev pub layer_of : Refusal → Layer
layer_of UnknownMode = Machine
layer_of BadSize = Machine
layer_of SmallBuffer = Machine
layer_of Halted = Machine
layer_of TooManySteps = Machine
layer_of NoSuchRegister = Machine
layer_of BadValue = Machine
layer_of NoSuchLine = Machine
layer_of OutsideMemory = Memory
layer_of ReadOnlyPage = Memory
layer_of BadTranslation = Machine
layer_of NoFreeSlot = Table
layer_of BadImage = Image
layer_of CutRecord = Image
layer_of UnknownRecord = Image
layer_of BadEnd = Image

-- a refusal, as it rises from its own layer
abbrev pub refused : Refusal → Refused
refused r = record { refusal = r; layer = layer_of r }
