-- What slots hold, and what going through them tells.
use Rattle.std.specs.Prelude.{◌≡◌, ℕ, ◌<◌, Bool, true, false, cond, List, [], ◌∷◌, length, replicate, Some, None, Option, ◌==◌, ◌≢◌, slice_index_or}
use Rattle.tlb.specs.declared.info.Info.{Info}
use Rattle.tlb.specs.declared.translation.Translation.{Translation}
use Rattle.tlb.specs.Sizes.{fitting}
use Rattle.tlb.specs.Table.{key, put}

-- the records that are slots: all, or none where their number is no table's
abbrev pub usable : List (Option Translation) → List (Option Translation)
usable rs = cond (fitting (length rs)) rs []

-- every slot free
abbrev pub freed : List (Option Translation) → List (Option Translation)
freed rs = cond (fitting (length rs)) (replicate (length rs) None) rs

abbrev pub holds : Option Translation → ℕ → Bool
holds None k = false
holds (Some t) k = key t == k

abbrev pub info_in : Option Translation → Option Info
info_in None = None
info_in (Some t) = Some t.info

abbrev pub translations_of : List (Option Translation) → List Translation
translations_of [] = []
translations_of (None ∷ xs) = translations_of xs
translations_of (Some t ∷ xs) = put t (translations_of xs)

abbrev pub Missing : ℕ → List (Option Translation) → Type 0
Missing k [] = Unit {0}
Missing k (x ∷ xs) = (holds x k ≡ false) × Missing k xs

-- no two slots have one key
abbrev pub Distinct : List (Option Translation) → Type 0
Distinct [] = Unit {0}
Distinct (None ∷ xs) = Distinct xs
Distinct (Some t ∷ xs) = Missing (key t) xs × Distinct xs

abbrev pub NoneHolds : List (Option Translation) → ℕ → Type 0
NoneHolds xs k = (j : ℕ) → j < length xs → holds (slice_index_or xs j None) k ≡ false

abbrev pub HoldsAt : List (Option Translation) → ℕ → ℕ → Type 0
HoldsAt xs k i = (i < length xs) × (holds (slice_index_or xs i None) k ≡ true)

abbrev pub NoneFree : List (Option Translation) → Type 0
NoneFree xs = (j : ℕ) → j < length xs → slice_index_or xs j None ≢ None

abbrev pub FreeAt : List (Option Translation) → ℕ → Type 0
FreeAt xs i = (i < length xs) × (slice_index_or xs i None ≡ None)
