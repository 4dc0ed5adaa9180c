-- What a machine means: its registers, the bytes and marks of its memory, and the slots and translations of its table.
use Rattle.std.specs.Prelude.{ℕ, Bool, List, []}
use Rattle.registers.specs.declared.registers.Registers.{Registers}
use Rattle.registers.specs.Access.{fresh as fresh_registers}
use Rattle.tlb.specs.declared.translation.Translation.{Translation}

pub record State : Type 0 where
  pub registers : Registers
  pub bytes : List ℕ
  pub marks : List Bool
  pub slots : ℕ
  pub translations : List Translation

abbrev pub with_registers : State → Registers → State
with_registers s r = record s { registers = r }

abbrev pub with_bytes : State → List ℕ → State
with_bytes s bs = record s { bytes = bs }

abbrev pub with_translations : State → List Translation → State
with_translations s ts = record s { translations = ts }

-- a machine just made over a memory and a table
abbrev pub fresh : List ℕ → List Bool → ℕ → State
fresh bs marks slots = record { registers = fresh_registers; bytes = bs; marks = marks; slots = slots; translations = [] }

-- what a call answers, and the state that it leaves
pub record Done (A : Type 0) : Type 0 where
  pub answer : A
  pub state : State
