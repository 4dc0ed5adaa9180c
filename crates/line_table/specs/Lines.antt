-- What lines hold: a key is looked for in its own line alone.
use Rattle.std.specs.Prelude.{ℕ, ◌%◌, Bool, cond, List, Some, None, Option, slice_index_or}
use Rattle.line_table.specs.declared.Line.{Line}
use Rattle.line_table.specs.Held.{Held}

-- what a line has for a key, which is compared whole
abbrev pub in_line : {K V : Type 0} → (K → K → Bool) → Option (Line K V) → Held K V
in_line eq None k = None
in_line eq (Some l) k = cond (eq l.key k) (Some l.value) None

-- what n lines have for a key, whose line is its number cut to n
abbrev pub held : {K V : Type 0} → (K → K → Bool) → (K → ℕ) → ℕ → List (Option (Line K V)) → Held K V
held eq fold n ls k = in_line eq (slice_index_or ls (fold k % n) None) k

-- a line without the key
abbrev pub emptied : {K V : Type 0} → (K → K → Bool) → Option (Line K V) → K → Option (Line K V)
emptied eq None k = None
emptied eq (Some l) k = cond (eq l.key k) None (Some l)
