-- A build's refusals, and their numbers.
use Rattle.std.specs.Prelude.{ℕ, ◌+◌, ◌*◌}
use Rattle.refusal.specs.declared.Refusal.{Refusal}
use Rattle.refusal.specs.Numbers.{number_of}
use Rattle.image.specs.declared.LoadRefused.{LoadRefused}
use Rattle.page.specs.declared.refused.BuildRefused.{BuildRefused}

-- a refusal that is of no record
abbrev pub by_itself : Refusal → BuildRefused
by_itself r = record { refusal = r; place = 0 }

-- a refusal with the place of its record
abbrev pub by_record : LoadRefused → BuildRefused
by_record e = record { refusal = e.refused.refusal; place = e.spot.place }

abbrev pub refusal_number : BuildRefused → ℕ
refusal_number b = 1000 + number_of b.refusal + 65536 * b.place
