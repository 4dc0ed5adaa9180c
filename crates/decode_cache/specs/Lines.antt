-- What a cache of 64 lines holds: an address is looked for in its own line alone.
use Rattle.std.specs.Prelude.{◌≡◌, ℕ, ◌/◌, ◌↔◌, Bool, true, ◌==◌}
use Rattle.std.specs.Cmp.Rules.{comparing}
use Rattle.std.proofs.Common.{rules}
use Rattle.decode_cache.specs.declared.cache.Decoded.{Decoded}
use Rattle.decode_cache.specs.declared.lines.Address.{Address}
use Rattle.decode_cache.specs.Held.{Held}
use Rattle.line_table.specs.declared.Lines.{Lines}
use Rattle.line_table.specs.Lines.{held}

-- addresses are compared whole
abbrev pub same : Address → Address → Bool
same a b = a.0 == b.0

-- the same addresses are one
pub whole : (a b : Address) → (same a b ≡ true) ↔ (a ≡ b)
whole a b = search (comparing, rules)

-- the word that an address is of
abbrev pub word_of : Address → ℕ
word_of a = a.0 / 4

abbrev pub in_lines : Lines Address Decoded 64 → Held
in_lines ls a = held same word_of 64 ls (record { 0 = a })
