-- What a decode cache means: a partial table from physical word addresses to decoded instructions.
use Rattle.std.specs.Prelude.{ℕ, ◌==◌}
use Rattle.decode_cache.specs.declared.cache.Decoded.{Decoded}
use Rattle.line_table.specs.Held as keyed
pub use Rattle.line_table.specs.Held.{Fewer, SameBut, LosesOne, nothing}

abbrev pub Held : Type 0
Held = keyed.Held ℕ Decoded

abbrev pub with_one : Held → ℕ → Decoded → Held
with_one = keyed.with_one ◌==◌

abbrev pub without_one : Held → ℕ → Held
without_one = keyed.without_one ◌==◌
