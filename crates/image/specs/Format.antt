-- The format of an image: what stands in it, one after another.
use Rattle.std.specs.Prelude.{◌≡◌, ℕ, ◌/◌, ◌%◌, ◌<◌, ◌≤◌, Bool, true, ◌&&◌, ◌||◌, List, [], ◌∷◌, ◌++◌, length, ◌==◌, nat_le, slice_index}
use Rattle.std.specs.List.{flat_map, AllByRecursion}

-- a kind that asks something of the machine, and the length of kind and body that it has
abbrev pub kind_allows : ℕ → ℕ → Bool
kind_allows kind size = (kind == 1 && nat_le 5 size) || ((kind == 2 && size == 11) || (kind == 3 && size == 7))

-- a kind with its body, of a length that two bytes can say
pub record Content (content : List ℕ) : Type 0 where
  pub allowed : kind_allows (slice_index content 0) (length content) ≡ true
  pub short : length content < 65536

-- the length in two bytes, then a kind with its body
abbrev pub framed : List ℕ → List ℕ
framed content = (length content / 256) ∷ ((length content % 256) ∷ content)

-- the end has kind 4 and no body
abbrev pub end_framed : List ℕ
end_framed = framed (4 ∷ [])

-- the version, the records, and the end
abbrev pub image_of : List (List ℕ) → List ℕ
image_of contents = 1 ∷ (flat_map framed contents ++ end_framed)

-- an image that is not too long and is made up of records
pub record WellFormed (image : List ℕ) : Type 0 where
  pub contents : List (List ℕ)
  pub each : AllByRecursion Content contents
  pub whole : image ≡ image_of contents
  pub most : length image ≤ 1048576
