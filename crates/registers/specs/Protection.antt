-- Protection ids: the eight halves of CR4 to CR7.
use Rattle.std.specs.Prelude.{ℕ, ◌/◌, ◌%◌, ◌^◌, Bool, ◌||◌, ◌==◌, slice_index}
use Rattle.registers.specs.declared.registers.Registers.{Registers}

-- one half of a control register is the segment
abbrev pub holds : ℕ → ℕ → Bool
holds pair segment = pair / 2 ^ 16 == segment || pair % 2 ^ 16 == segment

abbrev pub listed : Registers → ℕ → Bool
listed s segment = holds (slice_index s.cr 4) segment || (holds (slice_index s.cr 5) segment || (holds (slice_index s.cr 6) segment || holds (slice_index s.cr 7) segment))
