-- What a write keeps: the number of bytes, every byte that is not its own, and so every other word.
use Rattle.std.proofs.Common.{◌≡◌, ℕ, zero, suc, ◌+◌, ◌/◌, ◌%◌, ◌<◌, ◌≤◌, Bool, true, false, cond, ◌≢◌, ◌⊎◌, List, length, get_or, set, Ok, Err, Result, sym, refl, ap, ◌∙◌, inl, inr, ⊎_elim, arith}
use Rattle.std.proofs.lemmas.List.{length-set, get_or-set_other}
use Rattle.std.proofs.lemmas.Bool.{cond_both, cond-true, cond-false, cases_Bool, cases_order}
use Rattle.memory.specs.declared.memory.MemoryFault.{MemoryFault}
use Rattle.memory.specs.declared.memory.MemoryFault.TheVariants.{Outside, ReadOnly}
use Rattle.memory.specs.Bytes.{inside, number_at, stored_at}
use Rattle.memory.specs.Pages.{marked_at}
use Rattle.memory.specs.Access.{reading, writing, written}
use Rattle.memory.proofs.Widths.{width_cases, inside_parts, stored_one}

pub length_stored_at : (bs : List ℕ) (a w v : ℕ) → length (stored_at bs a w v) ≡ length bs
unfolding stored_at
length_stored_at bs a zero v = refl
length_stored_at bs a (suc n) v = length-set (stored_at bs a n (v / 256)) (a + n) (v % 256) ∙ length_stored_at bs a n (v / 256)

-- a place k is none of the w bytes from a on
abbrev pub Apart : ℕ → ℕ → ℕ → Type 0
Apart k a w = (k < a) ⊎ (a + w ≤ k)

pub other_byte_stored : (bs : List ℕ) (a w v k : ℕ) → Apart k a w → get_or (stored_at bs a w v) k 0 ≡ get_or bs k 0
unfolding stored_at
other_byte_stored bs a zero v k apart = refl
other_byte_stored bs a (suc n) v k apart =
    let ne : k ≢ a + n = λ e. ⊎_elim (λ h. omega arith) (λ h. omega arith) apart in
    let less : Apart k a n = ⊎_elim (λ h. inl h) (λ h. inr (omega arith)) apart in
    get_or-set_other (stored_at bs a n (v / 256)) (a + n) k (v % 256) 0 ne ∙ other_byte_stored bs a n (v / 256) k less

-- a number depends on its own bytes alone
pub number_from_bytes : (bs cs : List ℕ) (a w : ℕ) → ((i : ℕ) → i < w → get_or bs (a + i) 0 ≡ get_or cs (a + i) 0) → number_at bs a w ≡ number_at cs a w
unfolding number_at
number_from_bytes bs cs a zero same = refl
number_from_bytes bs cs a (suc n) same =
    let front = number_from_bytes bs cs a n (λ i h. same i (omega arith)) in
    let last = same n (omega arith) in
    cc

pub length_written : (bs : List ℕ) (marks : List Bool) (w a v : ℕ) → length (written bs marks w a v) ≡ length bs
unfolding written
length_written bs marks w a v =
    cond_both (inside w (length bs) a) (cond (marked_at marks a) bs (stored_at bs a w v)) bs (λ xs. length xs ≡ length bs)
    (λ _. cond_both (marked_at marks a) bs (stored_at bs a w v) (λ xs. length xs ≡ length bs) (λ _. refl) (λ _. length_stored_at bs a w v))
    (λ _. refl)

pub other_byte_kept : (bs : List ℕ) (marks : List Bool) (w a v k : ℕ) → Apart k a w → get_or (written bs marks w a v) k 0 ≡ get_or bs k 0
unfolding written
other_byte_kept bs marks w a v k apart =
    let P : List ℕ → Type 0 = λ xs. get_or xs k 0 ≡ get_or bs k 0 in
    cond_both (inside w (length bs) a) (cond (marked_at marks a) bs (stored_at bs a w v)) bs P
    (λ _. cond_both (marked_at marks a) bs (stored_at bs a w v) P (λ _. refl) (λ _. other_byte_stored bs a w v k apart))
    (λ _. refl)

-- an access inside lies within one word
pub within_a_word : (w n a : ℕ) → inside w n a ≡ true → a % 4 + w ≤ 4
within_a_word w n a ok =
    let p = inside_parts w n a ok in
    let even = p.even in
    ⊎_elim (λ e. omega arith)
    (⊎_elim (λ e. let h : a % 2 ≡ 0 = rw (← e) even in omega arith) (λ e. let h : a % 4 ≡ 0 = rw (← e) even in omega arith))
    (width_cases w p.known)

-- the bytes of an aligned word are none of an access to another word
pub other_word_apart : (q a w i : ℕ) → q % 4 ≡ 0 → a % 4 + w ≤ 4 → (q / 4 ≡ a / 4 → ⊥) → i < 4 → Apart (q + i) a w
other_word_apart q a w i even within other h =
    ⊎_elim (λ e. absurd (other e)) (⊎_elim (λ l. inl (omega arith)) (λ l. inr (omega arith))) (cases_order (q / 4) (a / 4))

-- whether a read is answered depends on the number of bytes alone
pub reading_from_number : (bs cs : List ℕ) (w a : ℕ) → length bs ≡ length cs → (inside w (length bs) a ≡ true → number_at bs a w ≡ number_at cs a w) → reading bs w a ≡ reading cs w a
unfolding reading
reading_from_number bs cs w a long same =
    ⊎_elim
    (λ yes. let also : inside w (length cs) a ≡ true = ap (λ n. inside w n a) (sym long) ∙ yes in rw (yes, also) (ap Ok (same yes)))
    (λ no. let also : inside w (length cs) a ≡ false = ap (λ n. inside w n a) (sym long) ∙ no in rw (no, also))
    (cases_Bool (inside w (length bs) a))

pub answered_inside : (yes : Bool) (v w : ℕ) → ◌≡◌ {A = Result ℕ MemoryFault} (cond yes (Ok v) (Err Outside)) (Ok w) → yes ≡ true
answered_inside true v w e = refl
answered_inside false v w e = let z : ◌≡◌ {A = ℕ} 0 1 = cc in absurd (omega arith)

-- a word is read at multiples of four only
pub read_aligned : (bs : List ℕ) (q w : ℕ) → reading bs 4 q ≡ Ok w → q % 4 ≡ 0
unfolding reading
read_aligned bs q w e = (inside_parts 4 (length bs) q (answered_inside (inside 4 (length bs) q) (number_at bs q 4) w e)).even

other_word_stored : (bs : List ℕ) (w a v q : ℕ) → a % 4 + w ≤ 4 → (q / 4 ≡ a / 4 → ⊥) → reading (stored_at bs a w v) 4 q ≡ reading bs 4 q
other_word_stored bs w a v q within other =
    reading_from_number (stored_at bs a w v) bs 4 q (length_stored_at bs a w v)
    (λ ok. number_from_bytes (stored_at bs a w v) bs q 4
    (λ i h. other_byte_stored bs a w v (q + i) (other_word_apart q a w i (inside_parts 4 (length (stored_at bs a w v)) q ok).even within other h)))

-- a write that is accepted or refused leaves every other aligned word as it was
pub other_word_kept : (bs : List ℕ) (marks : List Bool) (w a v q : ℕ) → (q / 4 ≡ a / 4 → ⊥) → reading (written bs marks w a v) 4 q ≡ reading bs 4 q
unfolding written
other_word_kept bs marks w a v q other =
    let P : List ℕ → Type 0 = λ xs. reading xs 4 q ≡ reading bs 4 q in
    cond_both (inside w (length bs) a) (cond (marked_at marks a) bs (stored_at bs a w v)) bs P
    (λ ok. cond_both (marked_at marks a) bs (stored_at bs a w v) P (λ _. refl) (λ _. other_word_stored bs w a v q (within_a_word w (length bs) a ok) other))
    (λ _. refl)

-- whether a write is accepted depends on the number of bytes alone
pub writing_from_length : (bs cs : List ℕ) (marks : List Bool) (w a : ℕ) → length bs ≡ length cs → writing bs marks w a ≡ writing cs marks w a
unfolding writing
writing_from_length bs cs marks w a long = rw long

accepted_parts : (yes marked : Bool) → ◌≡◌ {A = Result (Unit {0}) MemoryFault} (cond yes (cond marked (Err ReadOnly) (Ok tt)) (Err Outside)) (Ok tt) → (yes ≡ true) × (marked ≡ false)
accepted_parts true true e = let z : ◌≡◌ {A = ℕ} 0 1 = cc in absurd (omega arith)
accepted_parts true false e = (refl, refl)
accepted_parts false marked e = let z : ◌≡◌ {A = ℕ} 0 1 = cc in absurd (omega arith)

-- a byte that memory accepts is put in its place
pub byte_written : (bs : List ℕ) (marks : List Bool) (p x : ℕ) → writing bs marks 1 p ≡ Ok tt → x < 256 → written bs marks 1 p x ≡ set bs p x
unfolding writing written
byte_written bs marks p x ok small =
    let parts = accepted_parts (inside 1 (length bs) p) (marked_at marks p) ok in
    let whole : x % 256 ≡ x = omega arith in
    cond-true _ _ _ parts.0 ∙ cond-false _ _ _ parts.1 ∙ stored_one bs p x ∙ ap (set bs p) whole
