-- Pages of 16,384 bytes, each with its read-only mark, and at most 256 of them.
use Rattle.std.specs.Prelude.{◌≡◌, ℕ, ◌*◌, ◌/◌, ◌%◌, ◌≤◌, Bool, true, false, cond, not, ◌&&◌, List, [], length, replicate, Ok, Err, Result, ◌==◌, nat_le, slice_index_or, refl}
use Rattle.std.proofs.lemmas.List.{length-replicate}
use Rattle.std.proofs.Common.{arith}
use Rattle.std.proofs.lemmas.Bool.{leb-true, eqb-true, and_parts, cond_both}
use Rattle.refusal.specs.declared.Refusal.{Refusal}
use Rattle.refusal.specs.declared.Refusal.TheVariants.{BadSize}

pub record Paged (bytes : List ℕ) (marks : List Bool) : Type 0 where
  pub sized : length bytes ≡ 16384 * length marks
  pub few : length marks ≤ 256

-- the mark of the page of the byte at a
abbrev pub marked_at : List Bool → ℕ → Bool
marked_at marks a = slice_index_or marks (a / 16384) false

-- whole pages, at least one and at most 256
abbrev pub well_sized : ℕ → Bool
well_sized n = not (n == 0) && (n % 16384 == 0 && nat_le n 4194304)

abbrev pub sized : ℕ → Result (Unit {0}) Refusal
sized n = cond (well_sized n) (Ok tt) (Err BadSize)

-- a memory over bytes has all of them, or none
abbrev pub whole : List ℕ → List ℕ
whole bs = cond (well_sized (length bs)) bs []

-- a mark for each page of those bytes
abbrev pub all_pages : Bool → List ℕ → List Bool
all_pages mark bs = replicate (length bs / 16384) mark

abbrev pub unmarked : List ℕ → List Bool
unmarked bs = all_pages false bs

abbrev pub all_marked : List ℕ → List Bool
all_marked bs = all_pages true bs

well_sized_paged : (mark : Bool) (bs : List ℕ) → well_sized (length bs) ≡ true → Paged bs (all_pages mark bs)
well_sized_paged mark bs ok =
    let n = length bs in
    let rest = (and_parts (not (n == 0)) (n % 16384 == 0 && nat_le n 4194304) ok).1 in
    let parts = and_parts (n % 16384 == 0) (nat_le n 4194304) rest in
    let even = eqb-true (n % 16384) 0 parts.0 in
    let most = leb-true n 4194304 parts.1 in
    record {
      sized = rw length-replicate (omega arith);
      few = rw length-replicate (omega arith);
    }

-- every memory over bytes is lawful, whatever their number
pub whole_paged : (mark : Bool) (bs : List ℕ) → Paged (whole bs) (all_pages mark (whole bs))
whole_paged mark bs =
    cond_both (well_sized (length bs)) bs [] (λ xs. Paged xs (all_pages mark xs)) (well_sized_paged mark bs)
    (λ _. record { sized = refl; few = omega arith })
