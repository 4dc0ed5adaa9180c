-- Loading: the whole image is read first, and then its records are applied one after another, up to the first that is refused.
use Rattle.std.specs.Prelude.{ℕ, List, [], ◌∷◌, Ok, Err, Result}
use Rattle.image.specs.declared.LoadRefused.{LoadRefused}
use Rattle.image.specs.declared.Spot.{Spot}
use Rattle.image.specs.Faults.{refused_at}
use Rattle.image.specs.Records.{Asked, Place, Map, Give, End}
use Rattle.image.specs.Parsed.{Placed, parsed}
use Rattle.machine.specs.State.{State, Done}
use Rattle.machine.specs.Calls.{Answer, accepts, place, give, map}

abbrev pub Loaded : Type 0
Loaded = Done (Result (Unit {0}) LoadRefused)

-- what one record does
abbrev pub applied : Asked → State → Done Answer
applied (Place address bytes) s = place address bytes s
applied (Map segment page info) s = map segment page info s
applied (Give class number value) s = give class number value s
applied End s = accepts tt s

-- the records from one on, given what it answered; a refusal carries its number and place
abbrev pub apply_next : Spot → (State → Loaded) → Answer → State → Loaded
apply_next spot rest (Ok u) s = rest s
apply_next spot rest (Err e) s = record { answer = Err (refused_at spot e); state = s }

abbrev pub apply_all : List Placed → State → Loaded
apply_all [] s = record { answer = Ok tt; state = s }
apply_all (x ∷ xs) s = apply_next x.0 (apply_all xs) (applied x.1 s).answer (applied x.1 s).state

abbrev pub load_parsed : State → Result (List Placed) LoadRefused → Loaded
load_parsed s (Err e) = record { answer = Err e; state = s }
load_parsed s (Ok xs) = apply_all xs s

unfoldable pub load : List ℕ → State → Loaded
load image s = load_parsed s (parsed image)
