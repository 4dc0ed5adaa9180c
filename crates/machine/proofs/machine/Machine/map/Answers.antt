use Rattle.std.proofs.Common.{◌≡◌, true, ◌||◌, eqb, ltb, [], ◌∷◌, Some, None, sym, refl, ap, ◌∙◌, ok_or}
use Rattle.std.proofs.lemmas.Bool.{or_left, or_right, or_from, eq-eqb, ne_eqb, lt-ltb, le-ltb}
use Rattle.std.proofs.lemmas.Result.{err_from_is_err_and}
use Rattle.tlb.specs.Info.{info_of}
use Rattle.tlb.proofs.Laws.{refused_unchanged}
use Rattle.machine.specs.declared.fault.MachineFault.TheVariants.{BadTranslation}
use Rattle.machine.specs.State.{Done}
use Rattle.machine.specs.Calls.{Answer}
use Rattle.machine.specs.Machine.{view, Sound}
use Rattle.machine.proofs.Going.{same_state, did_registers}
use Rattle.machine.proofs.Setting.{same_fault, mapped_bad, mapped_bad_info, mapped_full, mapped_done}
use Rattle.machine.proofs.machine.Machine.map.Goals as goal
use Rattle.machine.proofs.machine.Machine.map.Goals.{then-segment-eq0-via-then-segment-eq0, then-segment-eq0-via-else-segment-eq0+then-page-gt-LAST_PAGE}

pub returns-then-segment-eq0 : goal.returns-then-segment-eq0
returns-then-segment-eq0 g c =
    let bad : (eqb c.args.segment 0 || ltb 262143 c.args.page) ≡ true =
    elim c.then-segment-eq0.branch [
      | then-segment-eq0-via-then-segment-eq0 w ↦ or_left _ _ (eq-eqb _ _ w.if-segment-eq0.true)
      | then-segment-eq0-via-else-segment-eq0+then-page-gt-LAST_PAGE w ↦ or_right _ _ (lt-ltb _ _ w.if-page-gt-LAST_PAGE.true)
    ] in
    rw c.into.ensures (did_registers _ _ _ _ _ _ _ (mapped_bad c.args.segment c.args.page c.args.info _ bad))

pub returns-in_err-info : goal.returns-in_err-info
returns-in_err-info g c =
    let good = or_from _ _ (ne_eqb _ _ c.if-segment-eq0.false) (le-ltb _ _ c.if-page-gt-LAST_PAGE.false) in
    let none : None ≡ info_of c.args.info = sym c.in_err-info.ensures.ok_part ∙ c.parse.ensures in
    let bad = same_fault _ BadTranslation (c.in_err-info.ensures.value ∙ ap (λ o. ok_or o BadTranslation) c.in_err-info.ensures.ok_part) in
    let p = err_from_is_err_and c.from_residual.result c.from_residual.ensures.1 in
    rw (p.1, p.2, bad) (did_registers _ _ _ _ _ _ _ (mapped_bad_info c.args.segment c.args.page c.args.info _ good none))

pub returns-in_err-insert : goal.returns-in_err-insert
returns-in_err-insert g c =
    let m = c.args.self.now in
    let v = view g.M.Memory g.T.Tlb g.C.DecodeCache m in
    let good = or_from _ _ (ne_eqb _ _ c.if-segment-eq0.false) (le-ltb _ _ c.if-page-gt-LAST_PAGE.false) in
    let info : Some c.in_ok-info.info ≡ info_of c.args.info = sym c.in_ok-info.ensures.ok_part ∙ c.parse.ensures in
    let f = c.in_err-insert.ensures in
    let p = err_from_is_err_and c.from_residual-in_err-insert.result c.from_residual-in_err-insert.ensures.1 in
    let full = λ (s : Sound g.M.Memory g.T.Tlb g.C.DecodeCache m). mapped_full c.args.segment c.args.page c.args.info v good c.in_ok-info.info info _ _ (f.answer s.table) p.2 in
    rw p.1 (record {
      answer = λ s. ap (λ (d : Done Answer). d.answer) (full s);
      state = λ s. same_state _ _ refl refl refl f.slots (f.translations s.table ∙ refused_unchanged _ _ _ _ (f.answer s.table)) ∙ ap (λ (d : Done Answer). d.state) (full s);
      sound = λ s. record { table = f.sound s.table; lines = s.lines; coherent = s.coherent };
      same = λ i. (m.memory.ghost_name ∷ m.tlb.ghost_name ∷ m.cache.ghost_name ∷ []) ∷ g.M.Memory.roots m.memory.now ∷ f.roots i ∷ [];
    })

pub returns : goal.returns
returns g c =
    let m = c.args.self.now in
    let v = view g.M.Memory g.T.Tlb g.C.DecodeCache m in
    let good = or_from _ _ (ne_eqb _ _ c.if-segment-eq0.false) (le-ltb _ _ c.if-page-gt-LAST_PAGE.false) in
    let info : Some c.in_ok-info.info ≡ info_of c.args.info = sym c.in_ok-info.ensures.ok_part ∙ c.parse.ensures in
    let f = c.in_ok-insert.ensures in
    let done = λ (s : Sound g.M.Memory g.T.Tlb g.C.DecodeCache m). mapped_done c.args.segment c.args.page c.args.info v good c.in_ok-info.info info (f.answer s.table) in
    record {
      answer = λ s. ap (λ (d : Done Answer). d.answer) (done s);
      state = λ s. same_state _ _ refl refl refl f.slots (f.translations s.table) ∙ ap (λ (d : Done Answer). d.state) (done s);
      sound = λ s. record { table = f.sound s.table; lines = s.lines; coherent = s.coherent };
      same = λ i. (m.memory.ghost_name ∷ m.tlb.ghost_name ∷ m.cache.ghost_name ∷ []) ∷ g.M.Memory.roots m.memory.now ∷ f.roots i ∷ [];
    }
