-- Two memories as one: the bytes and marks of the lower, and then those of the upper.
use Rattle.std.specs.Prelude.{◌≡◌, ℕ, ◌+◌, ◌≤◌, Bool, true, cond, not, ◌&&◌, List, [], ◌++◌, length, Some, None, Ok, Err, Option, Result, ◌==◌, nat_le, refl}
use Rattle.std.proofs.Common.{⊎_elim, length-append, arith}
use Rattle.std.proofs.lemmas.Bool.{leb-true, and_parts, cases_Bool}
use Rattle.refusal.specs.declared.Refusal.{Refusal}
use Rattle.refusal.specs.declared.Refusal.TheVariants.{BadSize}
use Rattle.memory.specs.Pages.{Paged}

-- memories of m and n pages make one: neither is empty, and both together have at most 256
abbrev pub joins : ℕ → ℕ → Bool
joins m n = not (m == 0) && (not (n == 0) && nat_le (m + n) 256)

abbrev pub joinable : ℕ → ℕ → Result (Unit {0}) Refusal
joinable m n = cond (joins m n) (Ok tt) (Err BadSize)

-- the page at which the upper memory begins
abbrev pub seam_of : ℕ → ℕ → Option ℕ
seam_of m n = cond (joins m n) (Some m) None

-- two that make no memory have no pages at all
abbrev pub joined_bytes : List ℕ → List Bool → List ℕ → List Bool → List ℕ
joined_bytes bs ms cs ns = cond (joins (length ms) (length ns)) (bs ++ cs) []

abbrev pub joined_marks : List Bool → List Bool → List Bool
joined_marks ms ns = cond (joins (length ms) (length ns)) (ms ++ ns) []

few_joined : (m n : ℕ) → joins m n ≡ true → m + n ≤ 256
few_joined m n ok =
    let rest = (and_parts (not (m == 0)) (not (n == 0) && nat_le (m + n) 256) ok).1 in
    leb-true (m + n) 256 (and_parts (not (n == 0)) (nat_le (m + n) 256) rest).1

pub joined_paged : (bs : List ℕ) (ms : List Bool) (cs : List ℕ) (ns : List Bool) → Paged bs ms → Paged cs ns → Paged (joined_bytes bs ms cs ns) (joined_marks ms ns)
joined_paged bs ms cs ns p q =
    ⊎_elim
    (λ yes. rw yes (record {
      sized = rw (length-append, length-append) (omega (arith, p.sized, q.sized));
      few = rw length-append (few_joined (length ms) (length ns) yes);
    }))
    (λ no. rw no (record { sized = refl; few = omega arith }))
    (cases_Bool (joins (length ms) (length ns)))
