-- What was tried: it is done, or it failed and changed nothing.
use Rattle.std.specs.Prelude.{Ok, Err, Result}

-- what there is afterwards
abbrev pub ends : {S E : Type 0} → S → Result S E → S
ends s (Ok t) = t
ends s (Err e) = s

-- whether it failed, and why
abbrev pub says : {S E : Type 0} → Result S E → Result (Unit {0}) E
says (Ok t) = Ok tt
says (Err e) = Err e
