-- Each key stands in its own line.
use Rattle.std.specs.Prelude.{◌≡◌, ℕ, ◌%◌, List, Some, None, Option, slice_index_or}
use Rattle.line_table.specs.declared.Line.{Line}

abbrev pub Placed : {K V : Type 0} → (K → ℕ) → ℕ → List (Option (Line K V)) → Type 0
Placed {K} {V} fold n xs = (i : ℕ) (l : Line K V) → slice_index_or xs i None ≡ Some l → fold l.key % n ≡ i
