-- The records of some bytes are read one after another.
use Rattle.std.proofs.Common.{◌≡◌, ℕ, zero, suc, false, cond, ◌+◌, ◌-◌, ◌*◌, ◌≤◌, List, [], ◌∷◌, length, drop, take, IfOk, Ok, Err, Result, sym, refl, ap, ◌∙◌, arith, nat_eq, nat_lt}
use Rattle.std.proofs.lemmas.List.{length-take-le, length-drop}
use Rattle.std.proofs.lemmas.Result.{IfOk-weaker}
use Rattle.std.proofs.lemmas.Bool.{cond_both, cond-false, ltb-false, eqb-false}
use Rattle.image.specs.declared.ImageFault.{ImageFault}
use Rattle.image.specs.declared.LoadRefused.{LoadRefused}
use Rattle.image.specs.declared.Record.{Record}
use Rattle.image.specs.declared.Record.TheVariants as lent
use Rattle.image.specs.declared.ImageFault.TheVariants.{NoEnd}
use Rattle.image.specs.declared.Spot.{Spot}
use Rattle.image.specs.Records.{Asked, End, before, of_size, read, half_at, asked}
use Rattle.image.specs.Parsed.{Placed, behind, ended, is_end, stops, after, read_from, read_all, says, cons_ok}

-- two bytes or more begin with a length
pub read_long : (bytes : List ℕ) → 2 ≤ length bytes → read bytes ≡ of_size (half_at bytes 0) (drop 2 bytes)
read_long [] long = absurd (omega arith)
read_long (b ∷ []) long = absurd (omega arith)
read_long (high ∷ low ∷ bytes) long = refl

-- behind a record there are at least three bytes fewer
before_fewer : (rest : List ℕ) (n : ℕ) (r : Result Asked ImageFault) → length rest + 3 ≤ n → IfOk (before rest r) (λ x. length x.1 + 3 ≤ n)
before_fewer rest n (Ok x) h = h
before_fewer rest n (Err fault) h = tt

size_fewer : (size : ℕ) (bytes : List ℕ) → IfOk (of_size size bytes) (λ x. length x.1 + 3 ≤ length bytes + 2)
size_fewer size bytes =
    cond_both (nat_lt (length bytes) size) _ _ (λ r. IfOk r (λ x. length x.1 + 3 ≤ length bytes + 2)) (λ _. tt)
    (λ room. cond_both (nat_eq (length (take size bytes)) 0) _ _ (λ r. IfOk (before (drop size bytes) r) (λ x. length x.1 + 3 ≤ length bytes + 2)) (λ _. tt)
    (λ some. before_fewer (drop size bytes) _ _ (
    let fits = ltb-false (length bytes) size room in
    let all = length-take-le size bytes fits in
    let content = eqb-false (length (take size bytes)) 0 some in
    let left = length-drop size bytes in
    omega arith)))

read_fewer : (bytes : List ℕ) → IfOk (read bytes) (λ x. length x.1 + 3 ≤ length bytes)
read_fewer [] = tt
read_fewer (b ∷ []) = tt
read_fewer (high ∷ low ∷ bytes) = IfOk-weaker (of_size (high * 256 + low) bytes) _ _ (λ x h. omega (arith, h)) (size_fewer (high * 256 + low) bytes)

-- what follows a record hangs on the rest alone
after_same : (more other : Spot → List ℕ → List (Result Placed LoadRefused)) (spot : Spot) (size : ℕ) (r : Result (Asked × List ℕ) ImageFault)
    → IfOk r (λ x. (at : Spot) → more at x.1 ≡ other at x.1) → after more spot size r ≡ after other spot size r
after_same more other spot size (Err fault) same = refl
after_same more other spot size (Ok (x, rest)) same = ap (λ xs. cond (is_end x) (ended (behind spot (size - length rest)) rest) (Ok (spot, x) ∷ xs)) (same _)

-- once there is fuel for all bytes it does not matter how much
fuel_enough : (f g : ℕ) (spot : Spot) (bytes : List ℕ) → length bytes ≤ f → length bytes ≤ g → read_from f spot bytes ≡ read_from g spot bytes
fuel_enough zero zero spot bytes h₁ h₂ = refl
fuel_enough zero (suc g) spot [] h₁ h₂ = refl
fuel_enough zero (suc g) spot (b ∷ bytes) h₁ h₂ = absurd (omega arith)
fuel_enough (suc f) zero spot [] h₁ h₂ = refl
fuel_enough (suc f) zero spot (b ∷ bytes) h₁ h₂ = absurd (omega arith)
fuel_enough (suc f) (suc g) spot bytes h₁ h₂ =
    after_same (read_from f) (read_from g) spot (length bytes) (read bytes)
    (IfOk-weaker (read bytes) _ _ (λ x less at. fuel_enough f g at x.1 (omega (arith, less)) (omega (arith, less))) (read_fewer bytes))

-- one record, and the rest
pub read_all_step : (spot : Spot) (bytes : List ℕ) → read_all spot bytes ≡ after read_all spot (length bytes) (read bytes)
unfolding read_all
read_all_step spot [] = refl
read_all_step spot (b ∷ bytes) =
    after_same (read_from (length bytes)) _ spot (length (b ∷ bytes)) (read (b ∷ bytes))
    (IfOk-weaker (read (b ∷ bytes)) _ _ (λ x less at. fuel_enough (length bytes) (length x.1) at x.1 (omega (arith, less)) (omega (arith, less))) (read_fewer (b ∷ bytes)))

pub read_all_fault : (spot : Spot) (bytes : List ℕ) (fault : ImageFault) → Err fault ≡ read bytes → read_all spot bytes ≡ stops spot fault
read_all_fault spot bytes fault is = read_all_step spot bytes ∙ ap (after read_all spot (length bytes)) (sym is)

-- the end, behind which nothing is left, or something
pub read_all_end : (spot : Spot) (bytes rest : List ℕ) → length rest ≡ 0 → Ok (End, rest) ≡ read bytes → read_all spot bytes ≡ []
read_all_end spot bytes [] none is = read_all_step spot bytes ∙ ap (after read_all spot (length bytes)) (sym is)
read_all_end spot bytes (b ∷ rest) none is = grind arith

pub read_all_over : (spot : Spot) (bytes rest : List ℕ) → (length rest ≡ 0 → ⊥) → Ok (End, rest) ≡ read bytes → read_all spot bytes ≡ stops (behind spot (length bytes - length rest)) NoEnd
read_all_over spot bytes [] some is = absurd (some refl)
read_all_over spot bytes (b ∷ rest) some is = read_all_step spot bytes ∙ ap (after read_all spot (length bytes)) (sym is)

pub read_all_next : (spot : Spot) (bytes rest : List ℕ) (x : Asked) → is_end x ≡ false → Ok (x, rest) ≡ read bytes
    → read_all spot bytes ≡ Ok (spot, x) ∷ read_all (behind spot (length bytes - length rest)) rest
read_all_next spot bytes rest x more is = read_all_step spot bytes ∙ ap (after read_all spot (length bytes)) (sym is) ∙ cond-false _ _ _ more

pub not_end : (r : Record) → (r ≡ lent.End → ⊥) → is_end (asked r) ≡ false
not_end (lent.Place address bytes) more = refl
not_end (lent.Map segment page info) more = refl
not_end (lent.Give class number value) more = refl
not_end lent.End more = absurd (more refl)

pub says_cons : (x : Placed) (r : Result (List Placed) LoadRefused) → says (cons_ok x r) ≡ says r
says_cons x (Ok xs) = refl
says_cons x (Err e) = refl
