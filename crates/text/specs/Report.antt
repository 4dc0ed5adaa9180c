-- The text of a report and of a notice, as lists of bytes.
use Rattle.std.specs.Prelude.{ℕ, zero, suc, ◌+◌, ◌/◌, ◌%◌, ◌^◌, Bool, true, cond, List, [], ◌∷◌, ◌++◌, map, length, drop, codes, decimal, ◌==◌, slice_index, if◌then◌else◌, nat_lt, Result, Ok, Err}
use Rattle.std.specs.Fmt.{digit_glyph}
use Rattle.refusal.specs.declared.Refusal.{Refusal}
use Rattle.refusal.specs.declared.Refusal.TheVariants.{SmallBuffer}

abbrev pub newline : List ℕ
newline = 10 ∷ []

-- a number in two decimal digits
abbrev pub two_digits : ℕ → List ℕ
two_digits n = (48 + n / 10) ∷ (48 + n % 10) ∷ []

-- a number in eight hexadecimal digits, in capitals
abbrev pub hexadecimal : ℕ → List ℕ
hexadecimal n = map (λ k. digit_glyph true (n / 16 ^ k % 16)) (7 ∷ 6 ∷ 5 ∷ 4 ∷ 3 ∷ 2 ∷ 1 ∷ 0 ∷ [])

-- a general register with its value
abbrev pub row_text : ℕ → ℕ → List ℕ
row_text n value = codes "GR" ++ (two_digits n ++ (codes " " ++ (hexadecimal value ++ newline)))

-- a register that is zero has no row
abbrev pub row_unless_zero : ℕ → ℕ → List ℕ
row_unless_zero n value = cond (value == 0) [] (row_text n value)

-- the rows of the registers from 1 to n
abbrev pub rows_to : ℕ → List ℕ → List ℕ
rows_to zero general = []
rows_to (suc n) general = rows_to n general ++ row_unless_zero (suc n) (slice_index general (suc n))

abbrev pub end_word : Bool → List ℕ
end_word halted = cond halted (codes " HALTED") (codes " SPENT")

unfoldable pub head_text : ℕ → Bool → List ℕ
head_text steps halted = codes "STEPS " ++ (decimal steps ++ (end_word halted ++ newline))

-- how many steps were made, whether by a halt, and what the registers hold
unfoldable pub report_text : ℕ → Bool → List ℕ → List ℕ
report_text steps halted general = head_text steps halted ++ rows_to 15 general

unfoldable pub notice_text : ℕ → List ℕ
notice_text number = codes "REFUSED " ++ (decimal number ++ newline)

-- a buffer with a text at its start
abbrev pub over : List ℕ → List ℕ → List ℕ
over text buffer = text ++ drop (length text) buffer

-- what writing a text answers, and what it leaves of the buffer, which has to have 256 bytes
abbrev pub written_length : List ℕ → List ℕ → Result ℕ Refusal
written_length text buffer = if nat_lt (length buffer) 256 then Err SmallBuffer else Ok (length text)

abbrev pub written : List ℕ → List ℕ → List ℕ
written text buffer = if nat_lt (length buffer) 256 then buffer else over text buffer
