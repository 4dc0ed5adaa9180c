-- The modes of a build, with their numbers.
use Rattle.std.specs.Prelude.{ℕ, cond, Ok, Err, Result, ◌==◌}
use Rattle.refusal.specs.declared.Refusal.{Refusal}
use Rattle.refusal.specs.declared.Refusal.TheVariants.{UnknownMode}
use Rattle.page.specs.declared.mode.Mode.{Mode}
use Rattle.page.specs.declared.mode.Mode.TheVariants.{Full, Fast}

abbrev pub mode_of : ℕ → Result Mode Refusal
mode_of n = cond (n == 0) (Ok Full) (cond (n == 1) (Ok Fast) (Err UnknownMode))
