-- What is promised of a page that is printed over any parts.
use Rattle.std.specs.Prelude.{◌≡◌, ℕ, ◌<◌, ◌≤◌, List, IfOk, Result}
use Rattle.memory.specs.declared.memory.Memory
use Rattle.memory.specs.Pages.{whole, unmarked}
use Rattle.tlb.specs.declared.table.Tlb
use Rattle.decode_cache.specs.declared.cache.DecodeCache
use Rattle.machine.specs.declared.machine.Machine.{Machine}
use Rattle.machine.specs.State.{State, fresh}
use Rattle.machine.specs.Machine.{view, Sound, lent}
use Rattle.page.specs.declared.refused.BuildRefused.{BuildRefused}
use Rattle.page.specs.Build.{Outcome, driven, building, page, built}

-- an answer below 1,000 is the length of a text, which is below 256
abbrev pub Short : ℕ → Type 0
Short r = r < 1000 → r < 256

-- a length is that of a text, which is below 256
abbrev pub ShortText : Result ℕ BuildRefused → Type 0
ShortText r = IfOk r (λ n. n < 256)

-- what a machine printed: the answer, its bytes and the report are those of a page
pub record Printed {M T C : Type 0} (mem : Memory.Ghosts M) (tlb : Tlb.Ghosts T) (cache : DecodeCache.Ghosts C) (print : List ℕ → State → Outcome) (a : Machine M T C) (before : List ℕ) (r : Result ℕ BuildRefused) (b : Machine M T C) (after : List ℕ) : Type 0 where
  pub answer : Sound mem tlb cache a → r ≡ (print before (view mem tlb cache a)).answer
  pub memory : Sound mem tlb cache a → mem.bytes b.memory.now ≡ (print before (view mem tlb cache a)).memory
  pub report : Sound mem tlb cache a → after ≡ (print before (view mem tlb cache a)).report
  pub short : ShortText r
  pub same : lent mem tlb cache b ≡ lent mem tlb cache a

-- the same of a fresh machine over a memory and a table, and what it leaves in that memory
pub record Drove {M T : Type 0} (mem : Memory.Ghosts M) (tlb : Tlb.Ghosts T) (steps : ℕ) (image : List ℕ) (m : M) (t : T) (before : List ℕ) (r : Result ℕ BuildRefused) (m' : M) (after : List ℕ) : Type 0 where
  pub answer : r ≡ (driven steps image before (fresh (mem.bytes m) (mem.marks m) (tlb.slots t))).answer
  pub memory : mem.bytes m' ≡ (driven steps image before (fresh (mem.bytes m) (mem.marks m) (tlb.slots t))).memory
  pub report : after ≡ (driven steps image before (fresh (mem.bytes m) (mem.marks m) (tlb.slots t))).report
  pub short : ShortText r
  pub roots : mem.roots m' ≡ mem.roots m

-- the same over a caller's bytes, with so many slots
pub record DroveBytes (slots steps : ℕ) (image bytes before : List ℕ) (r : Result ℕ BuildRefused) (bytes' after : List ℕ) : Type 0 where
  pub answer : r ≡ (driven steps image before (fresh (whole bytes) (unmarked (whole bytes)) slots)).answer
  pub memory : whole bytes' ≡ (driven steps image before (fresh (whole bytes) (unmarked (whole bytes)) slots)).memory
  pub report : after ≡ (driven steps image before (fresh (whole bytes) (unmarked (whole bytes)) slots)).report
  pub short : ShortText r

-- what a build answers, and what it leaves in the caller's bytes and in the report
pub record Built (mode steps : ℕ) (image bytes before : List ℕ) (r : Result ℕ BuildRefused) (bytes' after : List ℕ) : Type 0 where
  pub outcome : record { answer = r; memory = bytes'; report = after } ≡ building mode steps image bytes before
  pub short : ShortText r

-- the same with a number for the answer
pub record Builds (mode steps : ℕ) (image bytes before : List ℕ) (r : ℕ) (bytes' after : List ℕ) : Type 0 where
  pub answer : r ≡ (built mode steps image bytes before).answer
  pub memory : bytes' ≡ (built mode steps image bytes before).memory
  pub report : after ≡ (built mode steps image bytes before).report
  -- a fast build and a full build give the same page: on the right there is no mode
  pub modeless : mode ≤ 1 → record { answer = r; memory = bytes'; report = after } ≡ page steps image bytes before
  pub short : Short r
