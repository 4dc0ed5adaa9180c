-- The meaning of a machine over any parts, and what every call on it keeps.
use Rattle.std.specs.Prelude.{◌≡◌, ℕ, true, List, [], ◌∷◌, Some, Result}
use Rattle.std.specs.Borrow.{MutBor}
use Rattle.memory.specs.declared.memory.Memory
use Rattle.tlb.specs.declared.table.Tlb
use Rattle.decode_cache.specs.declared.cache.DecodeCache
use Rattle.decode_cache.specs.declared.cache.Decoded.{Decoded}
use Rattle.registers.specs.declared.trap.Cause.{Cause}
use Rattle.registers.specs.Tried.{ends, says}
use Rattle.machine.specs.declared.machine.Machine.{Machine}
use Rattle.machine.specs.State.{State, Done, fresh}
use Rattle.machine.specs.Coherence.{Coherent}

module _ {M T C : Type 0} (mem : Memory.Ghosts M) (tlb : Tlb.Ghosts T) (cache : DecodeCache.Ghosts C) where
  -- what a machine means: the decode cache is no part of it
  abbrev pub view : Machine M T C → State
  view m =
      record {
        registers = m.registers;
        bytes = mem.bytes m.memory.now;
        marks = mem.marks m.memory.now;
        slots = tlb.slots m.tlb.now;
        translations = tlb.translations m.tlb.now;
      }

  -- each part agrees with itself, and the cache holds only what memory has
  pub record Sound (m : Machine M T C) : Type 0 where
    pub table : tlb.sound m.tlb.now
    pub lines : cache.sound m.cache.now
    pub coherent : Coherent (mem.bytes m.memory.now) (cache.held m.cache.now)

  -- the ghost names of what a machine borrows: its parts, and what was lent to them; by these the lender learns what it has back
  abbrev pub lent : Machine M T C → List (List ℕ)
  lent m = (m.memory.ghost_name ∷ m.tlb.ghost_name ∷ m.cache.ghost_name ∷ []) ∷ mem.roots m.memory.now ∷ tlb.roots m.tlb.now ∷ []

  -- a machine made over parts that may hold anything
  pub record Made (m : MutBor M) (t : MutBor T) (c : MutBor C) (r : Machine M T C) : Type 0 where
    pub state : view r ≡ fresh (mem.bytes m.now) (mem.marks m.now) (tlb.slots t.now)
    pub sound : Sound r
    pub same : lent r ≡ (m.ghost_name ∷ t.ghost_name ∷ c.ghost_name ∷ []) ∷ mem.roots m.now ∷ tlb.roots t.now ∷ []

  -- what a call did: the answer and the state that its meaning gives; it keeps the machine sound
  pub record Did {A : Type 0} (call : State → Done A) (a : Machine M T C) (r : A) (b : Machine M T C) : Type 0 where
    pub answer : Sound a → r ≡ (call (view a)).answer
    pub state : Sound a → view b ≡ (call (view a)).state
    pub sound : Sound a → Sound b
    pub same : lent b ≡ lent a

  -- the same of a part of a call that answers nothing
  pub record Went (f : State → State) (a b : Machine M T C) : Type 0 where
    pub state : Sound a → view b ≡ f (view a)
    pub sound : Sound a → Sound b
    pub same : lent b ≡ lent a

  -- the same of a part of a step, which changes nothing where it fails
  pub record Tried (f : State → Result State Cause) (a : Machine M T C) (r : Result (Unit {0}) Cause) (b : Machine M T C) : Type 0 where
    pub answer : Sound a → r ≡ says (f (view a))
    pub state : Sound a → view b ≡ ends (view a) (f (view a))
    pub sound : Sound a → Sound b
    pub same : lent b ≡ lent a

  -- the same of a part of a step that only looks
  pub record Learned {A : Type 0} (f : State → A) (a : Machine M T C) (r : A) (b : Machine M T C) : Type 0 where
    pub answer : Sound a → r ≡ f (view a)
    pub state : Sound a → view b ≡ view a
    pub sound : Sound a → Sound b
    pub same : lent b ≡ lent a

  -- what a machine's cache is afterwards: one that retains what it is given holds what was fetched, under its physical address
  abbrev pub Retained : (State → ℕ → Decoded → Type 0) → Machine M T C → C → Type 0
  Retained fetched a after = cache.retains ≡ true → Sound a → (address : ℕ) (d : Decoded) → fetched (view a) address d → cache.held after address ≡ Some d
