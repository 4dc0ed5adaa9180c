use Rattle.std.proofs.Common.{[], ◌∷◌, refl}
use Rattle.machine.proofs.Coherence.{coherent_written}
use Rattle.machine.proofs.Going.{same_state}
use Rattle.machine.proofs.machine.Machine.put_byte.Goals as goal

pub returns : goal.returns
returns g c =
    let m = c.args.self.now in
    let w = c.write.ensures in
    record {
      state = λ _. same_state _ _ refl w.after w.same refl refl;
      sound = λ s. record { table = s.table; lines = c.forget.ensures.sound s.lines; coherent = coherent_written _ _ _ _ _ _ _ _ s.coherent w.after (c.forget.ensures.held s.lines) };
      same = λ i. (m.memory.ghost_name ∷ m.tlb.ghost_name ∷ m.cache.ghost_name ∷ []) ∷ w.rooted i ∷ g.T.Tlb.roots m.tlb.now ∷ [];
    }
