-- Bytes placed one by one.
use Rattle.std.proofs.Common.{◌≡◌, ℕ, zero, suc, ◌+◌, ◌<◌, ◌≤◌, Bool, List, [], ◌∷◌, length, get_or, take, set, Ok, Err, sym, refl, ap, ◌∙◌, le_of_suc-le-suc, not-suc-le-zero, add-zero, arith, take_all}
use Rattle.std.proofs.lemmas.List.{length-set}
use Rattle.refusal.specs.declared.Refused.{Refused}
use Rattle.memory.specs.declared.memory.Memory
use Rattle.memory.specs.declared.memory.MemoryFault.{MemoryFault}
use Rattle.memory.specs.Access.{writing, written, range_answer}
use Rattle.memory.specs.Raised.{raised}
use Rattle.memory.proofs.Words.{byte_written, writing_from_length}
use Rattle.memory.proofs.Ranges.{range_writable}
use Rattle.tlb.specs.declared.table.Tlb
use Rattle.decode_cache.specs.declared.cache.DecodeCache
use Rattle.machine.specs.declared.machine.Machine.{Machine}
use Rattle.machine.specs.State.{Done, with_bytes}
use Rattle.machine.specs.Calls.{Answer, refuses, overlaid, put_byte, place, place_by}
use Rattle.machine.specs.Machine.{view, Sound, lent, Did, Went}
use Rattle.machine.proofs.Going.{did_registers}

length_overlaid : (xs bs : List ℕ) (at : ℕ) → length (overlaid bs at xs) ≡ length bs
length_overlaid [] bs at = refl
length_overlaid (x ∷ xs) bs at = length_overlaid xs (set bs at x) (at + 1) ∙ length-set bs at x

-- one byte more
overlaid_more : (xs bs : List ℕ) (at i : ℕ) → i < length xs → overlaid bs at (take (i + 1) xs) ≡ set (overlaid bs at (take i xs)) (at + i) (get_or xs i 0)
overlaid_more [] bs at i h = absurd (not-suc-le-zero h)
overlaid_more (x ∷ xs) bs at zero h = rw add-zero refl
overlaid_more (x ∷ xs) bs at (suc i) h =
    let more : suc i + 1 ≡ suc (i + 1) = omega arith in
    let there : (at + 1) + i ≡ at + suc i = omega arith in
    ap (λ (n : ℕ). overlaid bs at (take n (x ∷ xs))) more ∙
    (overlaid_more xs (set bs at x) (at + 1) i (le_of_suc-le-suc h) ∙
    ap (λ (k : ℕ). set (overlaid (set bs at x) (at + 1) (take i xs)) k (get_or xs i 0)) there)

-- the same as memory writes it
byte_placed : (bs : List ℕ) (marks : List Bool) (xs : List ℕ) (at i : ℕ) → range_answer bs marks at (length xs) ≡ Ok tt → i < length xs → get_or xs i 0 < 256 →
    written (overlaid bs at (take i xs)) marks 1 (at + i) (get_or xs i 0) ≡ overlaid bs at (take (i + 1) xs)
byte_placed bs marks xs at i ok h small =
    let now = overlaid bs at (take i xs) in
    let accepted : writing now marks 1 (at + i) ≡ Ok tt = writing_from_length now bs marks 1 (at + i) (length_overlaid (take i xs) bs at) ∙ range_writable bs marks at (length xs) i ok h in
    byte_written now marks (at + i) (get_or xs i 0) accepted small ∙ sym (overlaid_more xs bs at i h)

module _ {M T C : Type 0} (mem : Memory.Ghosts M) (tlb : Tlb.Ghosts T) (cache : DecodeCache.Ghosts C) where
  pub place_refused : (at : ℕ) (xs : List ℕ) (a : Machine M T C) (f : MemoryFault) (e : Refused) → Err f ≡ range_answer (mem.bytes a.memory.now) (mem.marks a.memory.now) at (length xs) → e ≡ raised f → Did mem tlb cache (place at xs) a (Err e) a
  unfolding place
  place_refused at xs a f e no_room is =
      let v = view mem tlb cache a in
      did_registers mem tlb cache (place at xs) a (Err e) a.registers (ap (λ (x : Refused). refuses v x) is ∙ ap (place_by v at xs) no_room)

  -- what holds once the first i bytes are placed
  pub record Placing (at i : ℕ) (xs : List ℕ) (a b : Machine M T C) : Type 0 where
    pub state : Sound mem tlb cache a → view mem tlb cache b ≡ with_bytes (view mem tlb cache a) (overlaid (mem.bytes a.memory.now) at (take i xs))
    pub sound : Sound mem tlb cache a → Sound mem tlb cache b
    pub same : lent mem tlb cache b ≡ lent mem tlb cache a

  module _ (at : ℕ) (xs : List ℕ) (a : Machine M T C) (ok : Ok tt ≡ range_answer (mem.bytes a.memory.now) (mem.marks a.memory.now) at (length xs)) where
    pub place_goes : (i : ℕ) (b d : Machine M T C) → i < length xs → get_or xs i 0 < 256 → Placing at i xs a b → Went mem tlb cache (put_byte (at + i) (get_or xs i 0)) b d → Placing at (i + 1) xs a d
    place_goes i b d h small p w =
        let v = view mem tlb cache a in
        record {
          state = λ s. w.state (p.sound s) ∙ ap (put_byte (at + i) (get_or xs i 0)) (p.state s) ∙ ap (with_bytes v) (byte_placed v.bytes v.marks xs at i (sym ok) h small);
          sound = λ s. w.sound (p.sound s);
          same = w.same ∙ p.same;
        }

    pub place_ends : (i : ℕ) (b : Machine M T C) → length xs ≤ i → Placing at i xs a b → Did mem tlb cache (place at xs) a (Ok tt) b
    unfolding place
    place_ends i b all p =
        let v = view mem tlb cache a in
        let e = ap (place_by v at xs) ok in
        record {
          answer = λ _. ap (λ (d : Done Answer). d.answer) e;
          state = λ s. p.state s ∙ ap (λ (ys : List ℕ). with_bytes v (overlaid v.bytes at ys)) (take_all i xs all) ∙ ap (λ (d : Done Answer). d.state) e;
          sound = p.sound;
          same = p.same;
        }
