-- What was tried, from what it says.
use Rattle.std.proofs.Common.{◌≡◌, ℕ, Ok, Err, Result, sym, refl, ap, arith}
use Rattle.registers.specs.Tried.{ends, says}

pub tried_done : {S E : Type 0} (s : S) (x : Result S E) → Ok tt ≡ says x → x ≡ Ok (ends s x)
tried_done s (Ok t) e = refl
tried_done s (Err f) e = let z : ◌≡◌ {A = ℕ} 0 1 = cc in absurd (omega arith)

pub tried_failed : {S E : Type 0} (f : E) (x : Result S E) → Err f ≡ says x → x ≡ Err f
tried_failed f (Ok t) e = let z : ◌≡◌ {A = ℕ} 0 1 = cc in absurd (omega arith)
tried_failed f (Err d) e = let same : f ≡ d = cc in ap Err (sym same)

-- it failed, so nothing changed
pub tried_stays : {S E : Type 0} (s : S) (f : E) (x : Result S E) → Err f ≡ says x → ends s x ≡ s
tried_stays s f x e = ap (ends s) (tried_failed f x e)
