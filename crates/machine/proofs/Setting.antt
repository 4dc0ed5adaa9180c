-- Registers given and translations mapped from outside.
use Rattle.std.proofs.Common.{◌≡◌, ℕ, true, false, ◌||◌, eqb, ltb, Some, None, Ok, Err, Result, sym, ap, ◌∙◌}
use Rattle.std.proofs.lemmas.Bool.{cond-true, cond-false}
use Rattle.refusal.specs.declared.Refused.{Refused}
use Rattle.refusal.specs.declared.Refusal.TheVariants.{BadTranslation}
use Rattle.refusal.specs.Numbers.{refused}
use Rattle.memory.specs.declared.memory.Memory
use Rattle.tlb.specs.declared.table.Tlb
use Rattle.tlb.specs.declared.table.TableFault.{TableFault}
use Rattle.tlb.specs.declared.info.Info.{Info}
use Rattle.tlb.specs.declared.translation.Translation.{Translation}
use Rattle.tlb.specs.Info.{info_of}
use Rattle.tlb.specs.Table.{inserting, inserted}
use Rattle.tlb.specs.Raised.{raised as table_raised}
use Rattle.decode_cache.specs.declared.cache.DecodeCache
use Rattle.registers.specs.declared.registers.Registers.{Registers}
use Rattle.registers.specs.declared.give.RegisterFault.{RegisterFault}
use Rattle.registers.specs.Give.{given}
use Rattle.registers.specs.Tried.{ends, says}
use Rattle.registers.proofs.Tried.{tried_done, tried_failed}
use Rattle.registers.specs.Raised.{raised as register_raised}
use Rattle.machine.specs.declared.machine.Machine.{Machine}
use Rattle.machine.specs.State.{State, with_registers, with_translations}
use Rattle.machine.specs.Calls.{refuses, accepts, give, give_by, map, map_by, map_info}
use Rattle.machine.specs.Machine.{view, Did}
use Rattle.machine.proofs.Going.{holding, did_registers}

module _ {M T C : Type 0} (mem : Memory.Ghosts M) (tlb : Tlb.Ghosts T) (cache : DecodeCache.Ghosts C) where
  module _ (class number value : ℕ) (a : Machine M T C) (q : Registers) (after : q ≡ ends a.registers (given class number value a.registers)) where
    pub give_done : Ok tt ≡ says (given class number value a.registers) → Did mem tlb cache (give class number value) a (Ok tt) (holding a q)
    unfolding give
    give_done said =
        let v = view mem tlb cache a in
        did_registers mem tlb cache (give class number value) a (Ok tt) q
        (ap (λ (r : Registers). accepts tt (with_registers v r)) after ∙ sym (ap (give_by v) (tried_done a.registers (given class number value a.registers) said)))

    pub give_refused : (f : RegisterFault) (e : Refused) → Err f ≡ says (given class number value a.registers) → e ≡ register_raised f → Did mem tlb cache (give class number value) a (Err e) (holding a q)
    unfolding give
    give_refused f e said is =
        let v = view mem tlb cache a in
        let failed = tried_failed f (given class number value a.registers) said in
        did_registers mem tlb cache (give class number value) a (Err e) q
        (ap (λ (x : Refused). refuses (with_registers v q) x) is ∙ ap (λ (r : Registers). refuses (with_registers v r) (register_raised f)) (after ∙ ap (ends a.registers) failed) ∙ sym (ap (give_by v) failed))

pub same_fault : {A E : Type 0} (f g : E) → ◌≡◌ {A = Result A E} (Err f) (Err g) → f ≡ g
same_fault f g e = cc

-- ---- a translation mapped, in the state

module _ (segment page word : ℕ) (s : State) where
  pub mapped_bad : (eqb segment 0 || ltb 262143 page) ≡ true → refuses s (refused BadTranslation) ≡ map segment page word s
  unfolding map
  mapped_bad bad = sym (cond-true _ _ _ bad)

  module _ (good : (eqb segment 0 || ltb 262143 page) ≡ false) where
    pub mapped_bad_info : None ≡ info_of word → refuses s (refused BadTranslation) ≡ map segment page word s
    unfolding map
    mapped_bad_info none = ap (map_info s segment page) none ∙ sym (cond-false _ _ _ good)

    module _ (i : Info) (info : Some i ≡ info_of word) where
      abbrev new : Translation
      new = record { page = record { segment = segment; number = page }; info = i }

      by_table : map_by s new (inserting s.translations s.slots new) ≡ map segment page word s
      unfolding map
      by_table = ap (map_info s segment page) info ∙ sym (cond-false _ _ _ good)

      pub mapped_full : (f : TableFault) (e : Refused) → Err f ≡ inserting s.translations s.slots new → e ≡ table_raised f → refuses s e ≡ map segment page word s
      mapped_full f e full is = ap (λ (x : Refused). refuses s x) is ∙ ap (map_by s new) full ∙ by_table

      pub mapped_done : Ok tt ≡ inserting s.translations s.slots new → accepts tt (with_translations s (inserted s.translations s.slots new)) ≡ map segment page word s
      mapped_done room = ap (map_by s new) room ∙ by_table
