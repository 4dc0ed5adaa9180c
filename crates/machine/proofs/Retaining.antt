-- A cache that retains what it is given holds the instruction that a step fetches.
use Rattle.std.proofs.Common.{◌≡◌, ℕ, true, Some, None, Ok, Err, sym, ap, ◌∙◌, subst, arith}
use Rattle.memory.specs.declared.memory.Memory
use Rattle.tlb.specs.declared.table.Tlb
use Rattle.decode_cache.specs.declared.cache.DecodeCache
use Rattle.decode_cache.specs.declared.cache.Decoded.{Decoded}
use Rattle.registers.specs.declared.registers.Registers.{Registers}
use Rattle.registers.specs.declared.trap.Cause.{Cause}
use Rattle.registers.specs.Interrupts.{open_line, by_line}
use Rattle.machine.specs.declared.machine.Machine.{Machine}
use Rattle.machine.specs.declared.way.Way.{Way}
use Rattle.machine.specs.State.{State, with_registers}
use Rattle.machine.specs.Reach.{way_of, code_of}
use Rattle.machine.specs.Step.{StandsAt, Reaches, Fetches}
use Rattle.machine.specs.Machine.{view, Sound, Learned, Retained}
use Rattle.machine.proofs.Going.{holding, still_sound}

module _ {M T C : Type 0} (mem : Memory.Ghosts M) (tlb : Tlb.Ghosts T) (cache : DecodeCache.Ghosts C) where
  -- ---- at a place

  -- nothing stands where a fetch fails
  pub retained_failed : (way : Way) (a : Machine M T C) (after : C) (c : Cause) → (Sound mem tlb cache a → Err c ≡ code_of way (view mem tlb cache a)) → Retained mem tlb cache (StandsAt way) a after
  retained_failed way a after c fails retains sound p d at = let e = fails sound ∙ at.read in let z : ◌≡◌ {A = ℕ} 0 1 = cc in absurd (omega arith)

  pub retained_found : (way : Way) (a : Machine M T C) (after : C) (i : Decoded) → (Sound mem tlb cache a → Ok i ≡ code_of way (view mem tlb cache a)) → (cache.retains ≡ true → Sound mem tlb cache a → cache.held after way.address ≡ Some i) → Retained mem tlb cache (StandsAt way) a after
  retained_found way a after i finds holds retains sound p d at =
      let e = finds sound ∙ at.read in
      let same : i ≡ d = cc in
      ap (cache.held after) (sym at.placed) ∙ holds retains sound ∙ ap Some same

  -- ---- a fetch

  module _ (a b : Machine M T C) (after : C) where
    pub retained_barred : (c : Cause) → Learned mem tlb cache way_of a (Err c) b → Retained mem tlb cache Reaches a after
    retained_barred c l retains sound p d r = let e = l.answer sound ∙ r.reached in let z : ◌≡◌ {A = ℕ} 0 1 = cc in absurd (omega arith)

    pub retained_reached : (way : Way) → Learned mem tlb cache way_of a (Ok way) b → Retained mem tlb cache (StandsAt way) b after → Retained mem tlb cache Reaches a after
    retained_reached way l k retains sound p i r =
        let e = l.answer sound ∙ r.reached in
        let same : r.way ≡ way = cc in
        k retains (l.sound sound) p i (subst (λ (s : State). StandsAt way s p i) (sym (l.state sound)) (subst (λ (w : Way). StandsAt w (view mem tlb cache a) p i) same r.stands))

  -- what follows the fetch leaves the cache
  pub retained_on : (F : State → ℕ → Decoded → Type 0) (a : Machine M T C) (after last : C) → Retained mem tlb cache F a after → last ≡ after → Retained mem tlb cache F a last
  retained_on F a after last k same retains sound p i r = ap (λ (x : C). cache.held x p) same ∙ k retains sound p i r

  -- ---- a step

  pub retained_interrupted : (a : Machine M T C) (after : C) (n : ℕ) → Some n ≡ open_line a.registers → Retained mem tlb cache Fetches a after
  retained_interrupted a after n line retains sound p d f = let e = line ∙ f.calm in let z : ◌≡◌ {A = ℕ} 0 1 = cc in absurd (omega arith)

  pub retained_stepped : (a : Machine M T C) (after : C) (q : Registers) → None ≡ open_line a.registers → q ≡ by_line a.registers (open_line a.registers) → Retained mem tlb cache Reaches (holding a q) after → Retained mem tlb cache Fetches a after
  retained_stepped a after q none kept k retains sound p d f =
      let here : view mem tlb cache (holding a q) ≡ view mem tlb cache a = ap (with_registers (view mem tlb cache a)) (kept ∙ sym (ap (by_line a.registers) none)) in
      k retains (still_sound mem tlb cache a q sound) p d (subst (λ (s : State). Reaches s p d) (sym here) f.reaches)

  pub retained_halted : (a : Machine M T C) (after : C) → a.registers.halted ≡ true → Retained mem tlb cache Fetches a after
  retained_halted a after off retains sound p d f = let e = sym off ∙ f.running in let z : ◌≡◌ {A = ℕ} 0 1 = cc in absurd (omega arith)
