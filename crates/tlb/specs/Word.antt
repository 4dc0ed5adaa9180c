-- The bits of an info word that have no name: the two highest, and the seven above the physical page.
use Rattle.std.specs.Prelude.{ℕ, ◌+◌, ◌/◌, ◌%◌, ◌^◌}

abbrev pub unnamed : ℕ → ℕ
unnamed word = word / 2 ^ 30 + word / 2 ^ 18 % 2 ^ 7
