-- What ties a decode cache to memory.
use Rattle.std.specs.Prelude.{◌≡◌, ℕ, List, Some, Ok}
use Rattle.memory.specs.Access.{reading}
use Rattle.isa.specs.Decode.{decoded}
use Rattle.decode_cache.specs.declared.cache.Decoded.{Decoded}
use Rattle.decode_cache.specs.Held.{Held}

-- an instruction is the one that memory has at an address
pub record Read (bs : List ℕ) (a : ℕ) (d : Decoded) : Type 0 where
  pub word : reading bs 4 a ≡ Ok d.word
  pub instruction : decoded d.word ≡ Some d.instruction

-- whatever is held is what memory has
unfoldable pub Coherent : List ℕ → Held → Type 0
Coherent bs t = (a : ℕ) (d : Decoded) → t a ≡ Some d → Read bs a d
