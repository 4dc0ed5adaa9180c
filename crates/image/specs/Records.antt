-- The record that some bytes begin with.
use Rattle.std.specs.Prelude.{ℕ, ◌+◌, ◌*◌, cond, ◌&&◌, List, [], ◌∷◌, length, take, drop, Option, Some, None, Ok, Err, Result, ◌==◌, nat_le, nat_lt, slice_index}
use Rattle.std.specs.Borrow.{Bor}
use Rattle.image.specs.declared.ImageFault.{ImageFault}
use Rattle.image.specs.declared.ImageFault.TheVariants.{Cut, Unknown, NoEnd}
use Rattle.image.specs.declared.Record.{Record}
use Rattle.image.specs.declared.Record.TheVariants as lent

-- what a record asks of the machine, with the bytes themselves where a record has a slice
pub data Asked : Type 0 where
  Place : ℕ → List ℕ → Asked
  Map : ℕ → ℕ → ℕ → Asked
  Give : ℕ → ℕ → ℕ → Asked
  End : Asked

abbrev pub asked : Record → Asked
asked (lent.Place address bytes) = Place address bytes.now
asked (lent.Map segment page info) = Map segment page info
asked (lent.Give class number value) = Give class number value
asked lent.End = End

-- numbers of one, two and four bytes, the highest byte first
abbrev pub byte_at : List ℕ → ℕ → ℕ
byte_at bytes p = slice_index bytes p

abbrev pub half_at : List ℕ → ℕ → ℕ
half_at bytes p = byte_at bytes p * 256 + byte_at bytes (p + 1)

abbrev pub word_at : List ℕ → ℕ → ℕ
word_at bytes p = byte_at bytes p * 16777216 + byte_at bytes (p + 1) * 65536 + byte_at bytes (p + 2) * 256 + byte_at bytes (p + 3)

-- a kind and a body of so many bytes
abbrev pub of_kind : List ℕ → ℕ → ℕ → Result Asked ImageFault
of_kind content size kind =
    cond (kind == 1 && nat_le 5 size) (Ok (Place (word_at content 1) (drop 5 content)))
    (cond (kind == 2 && size == 11) (Ok (Map (half_at content 1) (word_at content 3) (word_at content 7)))
    (cond (kind == 3 && size == 7) (Ok (Give (byte_at content 1) (byte_at content 2) (word_at content 3)))
    (cond (kind == 4 && size == 1) (Ok End)
    (Err Unknown))))

-- with the bytes behind the record
abbrev pub before : List ℕ → Result Asked ImageFault → Result (Asked × List ℕ) ImageFault
before rest (Ok r) = Ok (r, rest)
before rest (Err fault) = Err fault

-- what the bytes of a record hold, its kind first; there has to be one
abbrev pub of_content : List ℕ → Result Asked ImageFault
of_content content = cond (length content == 0) (Err Cut) (of_kind content (length content) (byte_at content 0))

-- a record of so many bytes, which have to be there
abbrev pub of_size : ℕ → List ℕ → Result (Asked × List ℕ) ImageFault
of_size size bytes = cond (nat_lt (length bytes) size) (Err Cut) (before (drop size bytes) (of_content (take size bytes)))

-- no byte is no record, and one byte is no length
abbrev pub read : List ℕ → Result (Asked × List ℕ) ImageFault
read [] = Err NoEnd
read (b ∷ []) = Err Cut
read (high ∷ low ∷ bytes) = of_size (high * 256 + low) bytes

abbrev pub item : Record × Bor (List ℕ) → Asked × List ℕ
item i = (asked i.0, i.1.now)

-- how many bytes are left
abbrev pub left : Option (Bor (List ℕ)) → ℕ
left None = 0
left (Some bytes) = length bytes.now
