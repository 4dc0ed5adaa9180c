-- Bytes laid over a buffer at a place.
use Rattle.std.specs.Prelude.{ℕ, ◌+◌, List, ◌++◌, length, take, drop}

unfoldable pub laid : ℕ → List ℕ → List ℕ → List ℕ
laid at bytes buffer = take at buffer ++ (bytes ++ drop (at + length bytes) buffer)
