-- The translations in slots rise, and are no more than the slots.
use Rattle.std.proofs.Common.{sym, subst, arith}
use Rattle.std.specs.Prelude.{ℕ, suc, ◌<◌, ◌≤◌, cond, List, [], ◌∷◌, length, Some, None, Option, ◌==◌, nat_le, nat_lt}
use Rattle.std.proofs.lemmas.Bool.{cond_both, leb-true, ltb-true, ltb-false, eqb-true, eqb-false, and_parts}
use Rattle.tlb.specs.declared.translation.Translation.{Translation}
use Rattle.tlb.specs.Sizes.{fitting}
use Rattle.tlb.specs.Table.{key, put, Above, Rising, Lawful}
use Rattle.tlb.specs.Slots.{usable, translations_of}

pub put_adds_one_at_most : (t : Translation) (ts : List Translation) → length (put t ts) ≤ suc (length ts)
put_adds_one_at_most t [] = omega arith
put_adds_one_at_most t (x ∷ xs) =
    let P : List Translation → Type 0 = λ ys. length ys ≤ suc (suc (length xs)) in
    cond_both (nat_lt (key t) (key x)) (t ∷ x ∷ xs) (cond (key t == key x) (t ∷ xs) (x ∷ put t xs)) P
    (λ _. omega arith)
    (λ _. cond_both (key t == key x) (t ∷ xs) (x ∷ put t xs) P (λ _. omega arith) (λ _. omega (arith, put_adds_one_at_most t xs)))

pub no_more_than_slots : (xs : List (Option Translation)) → length (translations_of xs) ≤ length xs
no_more_than_slots [] = omega arith
no_more_than_slots (None ∷ xs) = let ih = no_more_than_slots xs in omega arith
no_more_than_slots (Some t ∷ xs) = let ih = no_more_than_slots xs in omega (arith, put_adds_one_at_most t (translations_of xs))

above_put : (m : ℕ) (t : Translation) (ts : List Translation) → m < key t → Above m ts → Above m (put t ts)
above_put m t [] h a = (h, tt)
above_put m t (x ∷ xs) h a =
    cond_both (nat_lt (key t) (key x)) (t ∷ x ∷ xs) (cond (key t == key x) (t ∷ xs) (x ∷ put t xs)) (Above m)
    (λ less. (h, (ltb-true (key t) (key x) less, a.1)))
    (λ more. cond_both (key t == key x) (t ∷ xs) (x ∷ put t xs) (Above m)
    (λ same. (h, subst (λ k. Above k xs) (sym (eqb-true (key t) (key x) same)) a.1))
    (λ other.
    let ne = eqb-false (key t) (key x) other in
    let le = ltb-false (key t) (key x) more in
    (a.0, above_put (key x) t xs (omega arith) a.1)))

pub rising_put : (t : Translation) (ts : List Translation) → Rising ts → Rising (put t ts)
rising_put t [] a = tt
rising_put t (x ∷ xs) a =
    cond_both (nat_lt (key t) (key x)) (t ∷ x ∷ xs) (cond (key t == key x) (t ∷ xs) (x ∷ put t xs)) Rising
    (λ less. (ltb-true (key t) (key x) less, a))
    (λ more. cond_both (key t == key x) (t ∷ xs) (x ∷ put t xs) Rising
    (λ same. subst (λ k. Above k xs) (sym (eqb-true (key t) (key x) same)) a)
    (λ other.
    let ne = eqb-false (key t) (key x) other in
    let le = ltb-false (key t) (key x) more in
    above_put (key x) t xs (omega arith) a))

pub rising_of : (xs : List (Option Translation)) → Rising (translations_of xs)
rising_of [] = tt
rising_of (None ∷ xs) = rising_of xs
rising_of (Some t ∷ xs) = rising_put t (translations_of xs) (rising_of xs)

few_usable : (rs : List (Option Translation)) → length (usable rs) ≤ 1024
few_usable rs =
    cond_both (fitting (length rs)) rs [] (λ xs. length xs ≤ 1024)
    (λ ok. leb-true (length rs) 1024 (and_parts (nat_le 1 (length rs)) (nat_le (length rs) 1024) ok).1)
    (λ _. omega arith)

pub usable_lawful : (rs : List (Option Translation)) → Lawful (translations_of (usable rs)) (length (usable rs))
usable_lawful rs =
    record { rising = rising_of (usable rs); fit = no_more_than_slots (usable rs); few = few_usable rs }
