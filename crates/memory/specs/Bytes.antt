-- Numbers in a list of bytes, the highest byte first.
use Rattle.std.specs.Prelude.{ℕ, zero, suc, ◌+◌, ◌*◌, ◌/◌, ◌%◌, Bool, ◌&&◌, ◌||◌, List, ◌==◌, nat_le, slice_index, slice_set}

-- an access is of 1, 2 or 4 bytes
abbrev pub known_width : ℕ → Bool
known_width w = w == 1 || (w == 2 || w == 4)

-- an access of so many bytes at a lies within n bytes, at a multiple of its width
abbrev pub inside : ℕ → ℕ → ℕ → Bool
inside width n a = known_width width && (a % width == 0 && nat_le (a + width) n)

-- the number that the bytes from a on spell
unfoldable pub number_at : List ℕ → ℕ → ℕ → ℕ
number_at bs a zero = 0
number_at bs a (suc n) = number_at bs a n * 256 + slice_index bs (a + n)

-- the bytes after the lowest bytes of v went to a
unfoldable pub stored_at : List ℕ → ℕ → ℕ → ℕ → List ℕ
stored_at bs a zero v = bs
stored_at bs a (suc n) v = slice_set (stored_at bs a n (v / 256)) (a + n) (v % 256)
