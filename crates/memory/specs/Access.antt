-- What a read and a write of memory answer, and what they leave.
use Rattle.std.specs.Prelude.{ℕ, zero, suc, ◌+◌, ◌-◌, ◌/◌, Bool, false, cond, ◌||◌, List, length, take, drop, Ok, Err, Result, ◌==◌, nat_le, slice_index_or}
use Rattle.memory.specs.declared.memory.MemoryFault.{MemoryFault}
use Rattle.memory.specs.declared.memory.MemoryFault.TheVariants.{Outside, ReadOnly}
use Rattle.memory.specs.Bytes.{inside, number_at, stored_at}
use Rattle.memory.specs.Pages.{marked_at}

unfoldable pub reading : List ℕ → ℕ → ℕ → Result ℕ MemoryFault
reading bs width a = cond (inside width (length bs) a) (Ok (number_at bs a width)) (Err Outside)

unfoldable pub writing : List ℕ → List Bool → ℕ → ℕ → Result (Unit {0}) MemoryFault
writing bs marks width a = cond (inside width (length bs) a) (cond (marked_at marks a) (Err ReadOnly) (Ok tt)) (Err Outside)

unfoldable pub written : List ℕ → List Bool → ℕ → ℕ → ℕ → List ℕ
written bs marks width a v = cond (inside width (length bs) a) (cond (marked_at marks a) bs (stored_at bs a width v)) bs

-- one of so many pages is marked
abbrev pub some_marked : List Bool → ℕ → ℕ → Bool
some_marked marks first zero = false
some_marked marks first (suc n) = some_marked marks first n || slice_index_or marks (first + n) false

-- how many pages n bytes from a on touch
abbrev pub touched : ℕ → ℕ → ℕ
touched a n = cond (n == 0) 0 ((a + n - 1) / 16384 + 1 - a / 16384)

-- whether n bytes may be put from a on
unfoldable pub range_answer : List ℕ → List Bool → ℕ → ℕ → Result (Unit {0}) MemoryFault
range_answer bs marks a n =
    cond (nat_le (a + n) (length bs)) (cond (some_marked marks (a / 16384) (touched a n)) (Err ReadOnly) (Ok tt)) (Err Outside)

-- whether n bytes may be had from a on
unfoldable pub range_reading : List ℕ → ℕ → ℕ → Result (Unit {0}) MemoryFault
range_reading bs a n = cond (nat_le (a + n) (length bs)) (Ok tt) (Err Outside)

-- a buffer filled with the bytes from a on, or left where they pass the end
unfoldable pub range_read : List ℕ → ℕ → List ℕ → List ℕ
range_read bs a buffer = cond (nat_le (a + length buffer) (length bs)) (take (length buffer) (drop a bs)) buffer
