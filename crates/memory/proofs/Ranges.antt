-- What a range's answer is made of, and that an accepted range can be written and read byte by byte.
use Rattle.std.proofs.Common.{◌≡◌, ℕ, zero, suc, ◌+◌, ◌-◌, ◌/◌, ◌%◌, ◌<◌, ◌≤◌, Bool, true, false, cond, leb, ◌||◌, List, length, get_or, take, drop, Ok, Err, Result, sym, refl, ap, ◌∙◌, ⊎_elim, add-zero, arith, MatchResult}
use Rattle.std.proofs.lemmas.List.{ext_get_or, length-drop, length-take-le, get_or-take, get_or-drop, get_or_past}
use Rattle.std.proofs.lemmas.Bool.{leb-true, leb-false, le-leb, eq-eqb, ne_eqb, or_left, or_right, cases_eq, cases_Bool, both_ways}
use Rattle.std.proofs.Math.Bool.{or-false, or_assoc}
use Rattle.std.specs.List.{list_any, range_with_len}
use Rattle.memory.specs.declared.memory.MemoryFault.{MemoryFault}
use Rattle.memory.specs.declared.memory.MemoryFault.TheVariants.{Outside, ReadOnly}
use Rattle.memory.specs.Pages.{marked_at}
use Rattle.memory.specs.Access.{reading, writing, some_marked, touched, range_answer, range_reading, range_read}
use Rattle.memory.proofs.Widths.{number_one}

-- a marked page among the first of a row is one of the row
pub some_marked_from : (marks : List Bool) (first i n : ℕ) → i < n → get_or marks (first + i) false ≡ true → some_marked marks first n ≡ true
some_marked_from marks first i zero h here = absurd (omega arith)
some_marked_from marks first i (suc n) h here =
    ⊎_elim (λ e. or_right (some_marked marks first n) (get_or marks (first + n) false) (rw (← e) here))
    (λ ne. or_left (some_marked marks first n) (get_or marks (first + n) false) (some_marked_from marks first i n (omega arith) here))
    (cases_eq i n)

pub none_marked_at : (marks : List Bool) (first i n : ℕ) → i < n → some_marked marks first n ≡ false → get_or marks (first + i) false ≡ false
none_marked_at marks first i n h none =
    ⊎_elim (λ yes. absurd (both_ways (some_marked marks first n) none (some_marked_from marks first i n h yes))) (λ no. no)
    (cases_Bool (get_or marks (first + i) false))

-- the first page of a row, and the others
marked_first : (marks : List Bool) (first n : ℕ) → some_marked marks first (suc n) ≡ (get_or marks first false || some_marked marks (first + 1) n)
marked_first marks first zero = rw (add-zero, or-false) refl
marked_first marks first (suc n) =
    let place : first + suc n ≡ first + 1 + n = omega arith in
    ap (λ b. b || get_or marks (first + suc n) false) (marked_first marks first n) ∙
    or_assoc (get_or marks first false) (some_marked marks (first + 1) n) (get_or marks (first + suc n) false) ∙
    ap (λ k. get_or marks first false || (some_marked marks (first + 1) n || get_or marks k false)) place

-- the pages of a row asked one after another
pub any_marked : (marks : List Bool) (first n : ℕ) → list_any (λ page. get_or marks page false) (range_with_len first n) ≡ some_marked marks first n
any_marked marks first zero = refl
any_marked marks first (suc n) = ap (λ b. get_or marks first false || b) (any_marked marks (first + 1) n) ∙ sym (marked_first marks first n)

module _ (bs : List ℕ) (marks : List Bool) (a n : ℕ) where
  pub range_outside : false ≡ leb (a + n) (length bs) → Err Outside ≡ range_answer bs marks a n
  unfolding range_answer
  range_outside past = rw (← past)

  module _ (ends : true ≡ leb (a + n) (length bs)) where
    pub range_empty : n ≡ 0 → Ok tt ≡ range_answer bs marks a n
    unfolding range_answer
    range_empty none = rw (← ends, eq-eqb n 0 none)

    module _ (some : n ≡ 0 → ⊥) where
      pub range_marked : true ≡ some_marked marks (a / 16384) ((a + n - 1) / 16384 + 1 - a / 16384) → Err ReadOnly ≡ range_answer bs marks a n
      unfolding range_answer
      range_marked found = rw (← ends, ne_eqb n 0 some, ← found)

      pub range_clear : false ≡ some_marked marks (a / 16384) ((a + n - 1) / 16384 + 1 - a / 16384) → Ok tt ≡ range_answer bs marks a n
      unfolding range_answer
      range_clear none = rw (← ends, ne_eqb n 0 some, ← none)

-- what an accepted range is
pub record Accepted (bs : List ℕ) (marks : List Bool) (a n : ℕ) : Type 0 where
  pub ends : a + n ≤ length bs
  pub clear : some_marked marks (a / 16384) (touched a n) ≡ false

neither_refusal : (fits marked : Bool) → ◌≡◌ {A = Result (Unit {0}) MemoryFault} (cond fits (cond marked (Err ReadOnly) (Ok tt)) (Err Outside)) (Ok tt) → (fits ≡ true) × (marked ≡ false)
neither_refusal true true e = let z : ◌≡◌ {A = ℕ} 0 1 = cc in absurd (omega arith)
neither_refusal true false e = (refl, refl)
neither_refusal false marked e = let z : ◌≡◌ {A = ℕ} 0 1 = cc in absurd (omega arith)

pub accepted : (bs : List ℕ) (marks : List Bool) (a n : ℕ) → range_answer bs marks a n ≡ Ok tt → Accepted bs marks a n
unfolding range_answer
accepted bs marks a n ok =
    let both = neither_refusal (leb (a + n) (length bs)) (some_marked marks (a / 16384) (touched a n)) ok in
    record { ends = leb-true (a + n) (length bs) both.0; clear = both.1 }

pub writing_byte : (bs : List ℕ) (marks : List Bool) (a : ℕ) → a < length bs → marked_at marks a ≡ false → writing bs marks 1 a ≡ Ok tt
unfolding writing
writing_byte bs marks a h none = rw (eq-eqb (a % 1) 0 (omega arith), le-leb (a + 1) (length bs) (omega arith), none)

-- each byte of an accepted range can be written
pub range_writable : (bs : List ℕ) (marks : List Bool) (a n i : ℕ) → range_answer bs marks a n ≡ Ok tt → i < n → writing bs marks 1 (a + i) ≡ Ok tt
range_writable bs marks a n i ok h =
    let all = accepted bs marks a n ok in
    let ends = all.ends in
    let count : touched a n ≡ (a + n - 1) / 16384 + 1 - a / 16384 = rw (ne_eqb n 0 (λ e. omega arith)) in
    let page : a / 16384 + ((a + i) / 16384 - a / 16384) ≡ (a + i) / 16384 = omega arith in
    let none = none_marked_at marks (a / 16384) ((a + i) / 16384 - a / 16384) (touched a n) (rw count (omega arith)) all.clear in
    writing_byte bs marks (a + i) (omega arith) (ap (λ k. get_or marks k false) (sym page) ∙ none)

-- ---- a range read byte by byte

reading_one : (bs : List ℕ) (a : ℕ) → reading bs 1 a ≡ cond (leb (a + 1) (length bs)) (Ok (get_or bs a 0)) (Err Outside)
unfolding reading
reading_one bs a = rw (eq-eqb (a % 1) 0 (omega arith), number_one bs a)

one_byte : (bs : List ℕ) (a : ℕ) (fits : Bool) → leb (a + 1) (length bs) ≡ fits → (r : Result ℕ MemoryFault) → r ≡ cond fits (Ok (get_or bs a 0)) (Err Outside) → MatchResult r (λ v. v ≡ get_or bs a 0) (λ _. 0 ≡ get_or bs a 0)
one_byte bs a true e (Ok v) is = cc
one_byte bs a true e (Err f) is = let z : ◌≡◌ {A = ℕ} 0 1 = cc in absurd (omega arith)
one_byte bs a false e (Ok v) is = let z : ◌≡◌ {A = ℕ} 0 1 = cc in absurd (omega arith)
one_byte bs a false e (Err f) is = let past = leb-false (a + 1) (length bs) e in sym (get_or_past bs a 0 (omega arith))

-- a byte that is read is the one there, and past the end there is none
pub byte_read : (bs : List ℕ) (a : ℕ) (r : Result ℕ MemoryFault) → r ≡ reading bs 1 a → MatchResult r (λ v. v ≡ get_or bs a 0) (λ _. 0 ≡ get_or bs a 0)
byte_read bs a r is = one_byte bs a (leb (a + 1) (length bs)) refl r (is ∙ reading_one bs a)

module _ (bs : List ℕ) (a : ℕ) (old : List ℕ) where
  pub read_past : false ≡ leb (a + length old) (length bs) → Err Outside ≡ range_reading bs a (length old)
  unfolding range_reading
  read_past past = rw (← past)

  pub read_nothing : false ≡ leb (a + length old) (length bs) → old ≡ range_read bs a old
  unfolding range_read
  read_nothing past = rw (← past)

  module _ (ends : true ≡ leb (a + length old) (length bs)) where
    pub read_within : Ok tt ≡ range_reading bs a (length old)
    unfolding range_reading
    read_within = rw (← ends)

    pub read_all : (now : List ℕ) → length now ≡ length old → ((k : ℕ) → k < length old → get_or now k 0 ≡ get_or bs (a + k) 0) → now ≡ range_read bs a old
    unfolding range_read
    read_all now long each =
        let n = length old in
        let all = leb-true (a + n) (length bs) (sym ends) in
        let rest = length-drop a bs in
        let same : length now ≡ length (take n (drop a bs)) = long ∙ sym (length-take-le n (drop a bs) (omega arith)) in
        rw (← ends) (ext_get_or 0 now (take n (drop a bs)) same (λ k h. each k (omega arith) ∙ sym (get_or-take n (drop a bs) k 0 (omega arith) ∙ get_or-drop a bs k 0)))
