-- The records of a whole image, or the first fault in it.
use Rattle.std.specs.Prelude.{ℕ, zero, suc, ◌+◌, ◌-◌, Bool, true, false, cond, not, ◌||◌, List, [], ◌∷◌, length, drop, Option, Some, None, Ok, Err, Result, ◌==◌, nat_lt}
use Rattle.std.specs.Borrow.{Bor}
use Rattle.refusal.specs.declared.Refused.{Refused}
use Rattle.image.specs.declared.ImageFault.{ImageFault}
use Rattle.image.specs.declared.ImageFault.TheVariants.{NoImage, NoEnd}
use Rattle.image.specs.declared.LoadRefused.{LoadRefused}
use Rattle.image.specs.declared.Record.{Record}
use Rattle.image.specs.declared.Spot.{Spot}
use Rattle.image.specs.declared.records.Records.{Records}
use Rattle.image.specs.Faults.{raised, refused_at}
use Rattle.image.specs.Records.{Asked, Place, Map, Give, End, asked, byte_at, read}

-- a record with its number and its place
abbrev pub Placed : Type 0
Placed = Spot × Asked

abbrev pub seen : Result (Spot × Record) LoadRefused → Result Placed LoadRefused
seen (Ok (spot, r)) = Ok (spot, asked r)
seen (Err e) = Err e

-- what an answer gives; a refusal is at the number and the place
abbrev pub gave : Spot → Result (Option (Spot × Record)) Refused → Option (Result Placed LoadRefused)
gave at (Ok None) = None
gave at (Ok (Some (spot, r))) = Some (Ok (spot, asked r))
gave at (Err refused) = Some (Err (refused_at at refused))

-- a fault, behind which nothing is read
abbrev pub stops : Spot → ImageFault → List (Result Placed LoadRefused)
stops spot fault = Err (refused_at spot (raised fault)) ∷ []

-- the number and the place of what follows a record of so many bytes
abbrev pub behind : Spot → ℕ → Spot
behind spot size = record { «record» = spot.«record» + 1; place = spot.place + size }

-- behind the end record no byte may follow
abbrev pub ended : Spot → List ℕ → List (Result Placed LoadRefused)
ended spot [] = []
ended spot (b ∷ bytes) = stops spot NoEnd

abbrev pub is_end : Asked → Bool
is_end (Place address bytes) = false
is_end (Map segment page info) = false
is_end (Give class number value) = false
is_end End = true

-- what one record gives, given what follows from the next on; of the bytes from it on there are so many
abbrev pub after : (Spot → List ℕ → List (Result Placed LoadRefused)) → Spot → ℕ → Result (Asked × List ℕ) ImageFault → List (Result Placed LoadRefused)
after more spot size (Err fault) = stops spot fault
after more spot size (Ok (x, rest)) =
    cond (is_end x) (ended (behind spot (size - length rest)) rest)
    (Ok (spot, x) ∷ more (behind spot (size - length rest)) rest)

-- at most so many records
abbrev pub read_from : ℕ → Spot → List ℕ → List (Result Placed LoadRefused)
read_from zero spot bytes = stops spot NoEnd
read_from (suc fuel) spot bytes = after (read_from fuel) spot (length bytes) (read bytes)

-- every record takes a byte, so there are no more of them than bytes
unfoldable pub read_all : Spot → List ℕ → List (Result Placed LoadRefused)
read_all spot bytes = read_from (length bytes) spot bytes

-- what is left to give
abbrev pub given_at : Spot → Option (Bor (List ℕ)) → List (Result Placed LoadRefused)
given_at spot None = []
given_at spot (Some bytes) = read_all spot bytes.now

abbrev pub given : Records → List (Result Placed LoadRefused)
given r = given_at r.spot r.rest

-- empty, too long, or not of version 1
abbrev pub no_image : List ℕ → Bool
no_image image = length image == 0 || (nat_lt 1048576 (length image) || not (byte_at image 0 == 1))

-- the records come behind the version
abbrev pub begun : List ℕ → Result (List (Result Placed LoadRefused)) LoadRefused
begun image = cond (no_image image) (Err (refused_at (record { «record» = 0; place = 0 }) (raised NoImage)))
    (Ok (read_all (record { «record» = 0; place = 1 }) (drop 1 image)))

abbrev pub cons_ok : Placed → Result (List Placed) LoadRefused → Result (List Placed) LoadRefused
cons_ok x (Ok xs) = Ok (x ∷ xs)
cons_ok x (Err e) = Err e

-- all records, unless there is a fault
abbrev pub whole : List (Result Placed LoadRefused) → Result (List Placed) LoadRefused
whole [] = Ok []
whole (Ok x ∷ xs) = cons_ok x (whole xs)
whole (Err e ∷ xs) = Err e

abbrev pub unless_refused : Result (List (Result Placed LoadRefused)) LoadRefused → Result (List Placed) LoadRefused
unless_refused (Ok xs) = whole xs
unless_refused (Err e) = Err e

unfoldable pub parsed : List ℕ → Result (List Placed) LoadRefused
parsed image = unless_refused (begun image)

-- whether there was a fault
abbrev pub says : Result (List Placed) LoadRefused → Result (Unit {0}) LoadRefused
says (Ok xs) = Ok tt
says (Err e) = Err e
