use Rattle.std.proofs.Common.{ℕ, ◌/◌, [], ◌∷◌, sym, refl, ap, ◌∙◌}
use Rattle.tlb.specs.Table as Table
use Rattle.registers.specs.declared.status.Status.{Status}
use Rattle.machine.proofs.Fetching.{way_through, way_straight, segment_zero, code_off}
use Rattle.machine.proofs.Going.{same_state}
use Rattle.machine.proofs.machine.Machine.code_way.Goals as goal
use Rattle.machine.proofs.machine.Machine.code_way.Goals.{else-segment-ne0-via-then-segment-ne0+else-status, else-segment-ne0-via-else-segment-ne0}

pub returns-then-status : goal.returns-then-status
returns-then-status g c =
    let m = c.args.self.now in
    let segment = c.segment-segment.ensures in
    let f = c.find-found.ensures in
    record {
      answer = λ s. (let found = f.answer s.table in way_through _ _ _ (λ e. c.if-segment-ne0.true (segment ∙ e)) (sym (ap (λ (t : Status). t.code) c.status.ensures) ∙ c.if-status.true) (found ∙ ap (λ (x : ℕ). Table.found (g.T.Tlb.translations m.tlb.now) x (c.offset.result / 16384)) segment ∙ ap (λ (x : ℕ). Table.found (g.T.Tlb.translations m.tlb.now) m.registers.segment (x / 16384)) c.offset.ensures) c.through.ensures);
      state = λ s. same_state _ _ refl refl refl f.slots (f.translations s.table);
      sound = λ s. record { table = f.sound s.table; lines = s.lines; coherent = s.coherent };
      same = λ i. (m.memory.ghost_name ∷ m.tlb.ghost_name ∷ m.cache.ghost_name ∷ []) ∷ g.M.Memory.roots m.memory.now ∷ f.roots i ∷ [];
    }

pub returns-else-segment-ne0 : goal.returns-else-segment-ne0
returns-else-segment-ne0 g c =
    elim c.else-segment-ne0.branch [
      | else-segment-ne0-via-then-segment-ne0+else-status w ↦
          record {
            answer = λ _. way_straight _ _ (code_off c.args.self.now.registers (sym (ap (λ (t : Status). t.code) w.status.ensures) ∙ w.if-status.false)) c.straight.ensures;
            state = λ _. refl;
            sound = λ s. s;
            same = refl;
          }
      | else-segment-ne0-via-else-segment-ne0 w ↦
          record {
            answer = λ _. way_straight _ _ (segment_zero c.args.self.now.registers (sym c.segment-segment.ensures ∙ w.if-segment-ne0.false)) c.straight.ensures;
            state = λ _. refl;
            sound = λ s. s;
            same = refl;
          }
    ]
