-- What a fetch finds, in memory or in the decode cache.
use Rattle.std.proofs.Common.{◌≡◌, ℕ, ◌/◌, true, false, not, Some, None, Ok, Err, Option, Result, sym, refl, ap, ◌∙◌, arith}
use Rattle.std.proofs.lemmas.Bool.{and_from, and_left, and_right, ne_eqb, eq-eqb, cond-true, cond-false}
use Rattle.std.specs.Result.{result_ok}
use Rattle.tlb.specs.declared.info.Info.{Info}
use Rattle.tlb.specs.Table.{found}
use Rattle.memory.specs.declared.memory.MemoryFault.{MemoryFault}
use Rattle.memory.specs.Access.{reading}
use Rattle.isa.specs.Decode.{decoded}
use Rattle.decode_cache.specs.declared.cache.Decoded.{Decoded}
use Rattle.registers.specs.declared.registers.Registers.{Registers}
use Rattle.registers.specs.declared.trap.Trap.TheVariants.{Memory, Illegal}
use Rattle.registers.specs.declared.trap.Cause.{Cause}
use Rattle.machine.specs.declared.way.Way.{Way}
use Rattle.machine.specs.State.{State}
use Rattle.machine.specs.Coherence.{Read}
use Rattle.machine.specs.Reach.{failed, failed_at, by_read, by_decoding, code_of, through, straight, translates_code, way_of, by_way, at_way, fetched}

module _ (way : Way) (s : State) where
  -- an instruction that memory has, read now or earlier
  pub code_read : (d : Decoded) → Read s.bytes way.address d → Ok d ≡ code_of way s
  unfolding code_of
  code_read d read = sym (ap (by_read s.registers way) read.word ∙ ap (by_decoding d.word) read.instruction)

  pub code_unread : (f : MemoryFault) (o : ℕ) (c : Cause) → reading s.bytes 4 way.address ≡ Err f → o ≡ s.registers.offset → c ≡ failed_at Memory way.segment o → Err c ≡ code_of way s
  unfolding code_of
  code_unread f o c refused there is = ap Err (is ∙ ap (failed_at Memory way.segment) there) ∙ sym (ap (by_read s.registers way) refused)

  pub code_illegal : (w : ℕ) (c : Cause) → reading s.bytes 4 way.address ≡ Ok w → decoded w ≡ None → c ≡ failed Illegal w → Err c ≡ code_of way s
  unfolding code_of
  code_illegal w c read none is = ap Err is ∙ sym (ap (by_read s.registers way) read ∙ ap (by_decoding w) none)

-- a word that was read, or was not
pub read_some : (r : Result ℕ MemoryFault) (w : ℕ) → result_ok r ≡ Some w → r ≡ Ok w
read_some (Ok v) w e = cc
read_some (Err f) w e = let z : ◌≡◌ {A = ℕ} 0 1 = cc in absurd (omega arith)

pub read_none : (r : Result ℕ MemoryFault) → result_ok r ≡ None → (f : MemoryFault) × (r ≡ Err f)
read_none (Ok v) e = let z : ◌≡◌ {A = ℕ} 0 1 = cc in absurd (omega arith)
read_none (Err f) e = (f, refl)

-- the two ways to the current instruction
module _ (s : State) where
  pub way_through : (f : Option Info) (r : Result Way Cause) → (s.registers.segment ≡ 0 → ⊥) → s.registers.status.code ≡ true → f ≡ found s.translations s.registers.segment (s.registers.offset / 16384) → r ≡ through s.registers f → r ≡ way_of s
  unfolding way_of
  way_through f r some on is e =
      let yes : translates_code s.registers ≡ true = and_from _ _ (ap not (ne_eqb _ _ some)) on in
      e ∙ ap (through s.registers) is ∙ sym (cond-true _ _ _ yes)

  pub way_straight : (r : Result Way Cause) → translates_code s.registers ≡ false → r ≡ straight s.registers → r ≡ way_of s
  unfolding way_of
  way_straight r plain e = e ∙ sym (cond-false _ _ _ plain)

pub segment_zero : (r : Registers) → r.segment ≡ 0 → translates_code r ≡ false
segment_zero r e = and_left _ _ (ap not (eq-eqb _ _ e))

pub code_off : (r : Registers) → r.status.code ≡ false → translates_code r ≡ false
code_off r e = and_right _ _ e

-- a fetch goes by its way, and then by what stands there
module _ (s : State) where
  pub fetch_barred : (c : Cause) → Err c ≡ way_of s → Err c ≡ fetched s
  unfolding fetched
  fetch_barred c e = ap (by_way s) e

  pub fetch_failed : (way : Way) (c : Cause) → Ok way ≡ way_of s → Err c ≡ code_of way s → Err c ≡ fetched s
  unfolding fetched
  fetch_failed way c e f = ap (at_way way) f ∙ ap (by_way s) e

  pub fetch_done : (way : Way) (d : Decoded) → Ok way ≡ way_of s → Ok d ≡ code_of way s → Ok (record { user = way.user; decoded = d }) ≡ fetched s
  unfolding fetched
  fetch_done way d e f = ap (at_way way) f ∙ ap (by_way s) e
