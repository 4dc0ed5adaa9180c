-- How many slots a table may have.
use Rattle.std.specs.Prelude.{ℕ, Bool, cond, ◌&&◌, Ok, Err, Result, nat_le}
use Rattle.refusal.specs.declared.Refusal.{Refusal}
use Rattle.refusal.specs.declared.Refusal.TheVariants.{BadSize}

abbrev pub fitting : ℕ → Bool
fitting n = nat_le 1 n && nat_le n 1024

abbrev pub sized : ℕ → Result (Unit {0}) Refusal
sized n = cond (fitting n) (Ok tt) (Err BadSize)
