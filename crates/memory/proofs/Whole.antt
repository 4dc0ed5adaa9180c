-- A memory over a list of bytes has all of them or none.
use Rattle.std.proofs.Common.{◌≡◌, ℕ, zero, suc, ◌+◌, ◌/◌, ◌<◌, ◌≤◌, Bool, true, false, cond, ltb, List, [], length, get_or, replicate, Ok, Err, Result, sym, refl, ap, ◌∙◌, subst, ⊎_elim, arith}
use lib.ListN.{length-replicate}
use Rattle.std.proofs.lemmas.List.{get_or-replicate, get_or_past}
use Rattle.std.proofs.lemmas.Bool.{cond-true, cond-false, cases_Bool, cases_lt, lt-ltb, le-ltb}
use Rattle.memory.specs.declared.memory.MemoryFault.{MemoryFault}
use Rattle.memory.specs.declared.memory.MemoryFault.TheVariants.{Outside, ReadOnly}
use Rattle.memory.specs.Bytes.{known_width, inside, number_at, stored_at}
use Rattle.memory.specs.Pages.{well_sized, whole, unmarked, all_marked, whole_paged}
use Rattle.memory.specs.Access.{reading, writing, written}
use Rattle.memory.proofs.Widths.{inside_parts, width_positive}
use Rattle.memory.proofs.Words.{length_stored_at, answered_inside}

pub none_marked : (n i : ℕ) → get_or (replicate n false) i false ≡ false
none_marked zero i = refl
none_marked (suc n) zero = refl
none_marked (suc n) (suc i) = none_marked n i

-- where every page is marked, a page is marked exactly if it is one
pub marked_within : (n i : ℕ) → ltb i n ≡ get_or (replicate n true) i false
marked_within n i =
    ⊎_elim (λ h. lt-ltb i n h ∙ sym (get_or-replicate n i true false h))
    (λ h. le-ltb i n h ∙ sym (get_or_past (replicate n true) i false (rw length-replicate h)))
    (cases_lt i n)

whole_well_sized : (bs : List ℕ) → well_sized (length bs) ≡ true → whole bs ≡ bs
whole_well_sized bs ok = cond-true (well_sized (length bs)) bs [] ok

-- an access inside a memory over bytes
module _ (bs : List ℕ) (w a : ℕ) (ok : inside w (length (whole bs)) a ≡ true) where
  some_bytes : 0 < length (whole bs)
  some_bytes = let p = inside_parts w (length (whole bs)) a ok in let k = width_positive w p.known in let e = p.ends in omega arith

  well_sized_here : well_sized (length bs) ≡ true
  well_sized_here =
      ⊎_elim (λ yes. yes) (λ no. let none : whole bs ≡ [] = cond-false _ _ _ no in let z = subst (λ xs. 0 < length xs) none some_bytes in absurd (omega arith))
      (cases_Bool (well_sized (length bs)))

  is_whole : whole bs ≡ bs
  is_whole = whole_well_sized bs well_sized_here

  pub fits_bytes : (a + w ≤ length bs) × (known_width w ≡ true)
  fits_bytes = let p = inside_parts w (length (whole bs)) a ok in (subst (λ xs. a + w ≤ length xs) is_whole p.ends, p.known)

  pub accepts : Ok tt ≡ writing (whole bs) (unmarked (whole bs)) w a
  unfolding writing
  accepts = rw (ok, none_marked (length (whole bs) / 16384) (a / 16384))

  module _ (v : ℕ) (cs : List ℕ) (stored : cs ≡ stored_at bs a w v) where
    same_length : length cs ≡ length bs
    same_length = ap length stored ∙ length_stored_at bs a w v

    still_whole : whole cs ≡ cs
    still_whole = whole_well_sized cs (ap well_sized same_length ∙ well_sized_here)

    pub writes : whole cs ≡ written (whole bs) (unmarked (whole bs)) w a v
    unfolding written
    writes = rw (ok, none_marked (length (whole bs) / 16384) (a / 16384), still_whole, is_whole) stored

    pub marks_stay : unmarked (whole cs) ≡ unmarked (whole bs)
    marks_stay = rw (still_whole, is_whole, same_length)

  -- where every page is marked
  here_marked : get_or (all_marked (whole bs)) (a / 16384) false ≡ true
  here_marked =
      let p = inside_parts w (length (whole bs)) a ok in
      let k = width_positive w p.known in
      let e = p.ends in
      let even = (whole_paged true bs).sized in
      let l = length-replicate (length (whole bs) / 16384) true in
      get_or-replicate (length (whole bs) / 16384) (a / 16384) true false (omega arith)

  pub refuses : Err ReadOnly ≡ writing (whole bs) (all_marked (whole bs)) w a
  unfolding writing
  refuses = rw (ok, here_marked)

  pub refuses_all : (v : ℕ) → whole bs ≡ written (whole bs) (all_marked (whole bs)) w a v
  unfolding written
  refuses_all v = rw (ok, here_marked)

-- an access outside
module _ (bs : List ℕ) (w a : ℕ) (no : inside w (length bs) a ≡ false) (marks : List Bool) where
  pub writes_outside : Err Outside ≡ writing bs marks w a
  unfolding writing
  writes_outside = rw no

  pub writes_nothing : (v : ℕ) → bs ≡ written bs marks w a v
  unfolding written
  writes_nothing v = rw no

-- what a read answers tells where the access is
answered_outside : (fits : Bool) (v : ℕ) (f : MemoryFault) → ◌≡◌ {A = Result ℕ MemoryFault} (cond fits (Ok v) (Err Outside)) (Err f) → (fits ≡ false) × (f ≡ Outside)
answered_outside true v f e = let z : ◌≡◌ {A = ℕ} 0 1 = cc in absurd (omega arith)
answered_outside false v f e = (refl, cc)

pub read_inside : (bs : List ℕ) (w a v : ℕ) → Ok v ≡ reading bs w a → inside w (length bs) a ≡ true
unfolding reading
read_inside bs w a v e = answered_inside (inside w (length bs) a) (number_at bs a w) v (sym e)

pub read_outside : (bs : List ℕ) (w a : ℕ) (f : MemoryFault) → Err f ≡ reading bs w a → (inside w (length bs) a ≡ false) × (f ≡ Outside)
unfolding reading
read_outside bs w a f e = answered_outside (inside w (length bs) a) (number_at bs a w) f (sym e)
