use Rattle.std.proofs.Common.{sym, refl, ap, ◌∙◌, ok_or}
use Rattle.std.proofs.lemmas.Result.{err_from_is_err_and}
use Rattle.machine.specs.Coherence.{Read, Coherent}
use Rattle.machine.specs.Machine.{view, Sound}
use Rattle.machine.proofs.Coherence.{coherent_kept}
use Rattle.machine.proofs.Fetching.{read_some, read_none, code_read, code_unread, code_illegal}
use Rattle.machine.proofs.Retaining.{retained_failed, retained_found}
use Rattle.machine.proofs.Setting.{same_fault}
use Rattle.machine.proofs.machine.Machine.code_at.Goals as goal

pub returns-in-Some : goal.returns-in-Some
unfolding Coherent
returns-in-Some g c =
    let m = c.args.self.now in
    let held = λ (s : Sound g.M.Memory g.T.Tlb g.C.DecodeCache m). sym (c.in-Some.ensures s.lines) in
    let finds = λ (s : Sound g.M.Memory g.T.Tlb g.C.DecodeCache m). code_read c.args.way (view g.M.Memory g.T.Tlb g.C.DecodeCache m) c.in-Some.decoded (s.coherent _ _ (held s)) in
    record {
      learned = record { answer = finds; state = λ _. refl; sound = λ s. s; same = refl };
      retained = retained_found _ _ _ c.args.way m _ c.in-Some.decoded finds (λ _. held);
    }

pub returns-in_err-word : goal.returns-in_err-word
returns-in_err-word g c =
    let m = c.args.self.now in
    let v = view g.M.Memory g.T.Tlb g.C.DecodeCache m in
    let e = c.in_err-word.ensures in
    let gone = read_none c.read.result (sym c.ok.ensures.value ∙ e.ok_part) in
    let fails = code_unread c.args.way v gone.0 _ _ (sym c.read.ensures.value ∙ gone.1) c.offset.ensures c.failed_at-unread.ensures in
    let cause = same_fault _ c.failed_at-unread.result (e.value ∙ ap (λ o. ok_or o c.failed_at-unread.result) e.ok_part) in
    let p = err_from_is_err_and c.from_residual.result c.from_residual.ensures.1 in
    rw (p.1, p.2, cause) (record {
      learned = record { answer = λ _. fails; state = λ _. refl; sound = λ s. s; same = refl };
      retained = retained_failed _ _ _ c.args.way m _ _ (λ _. fails);
    })

pub returns-in_err-instruction : goal.returns-in_err-instruction
returns-in_err-instruction g c =
    let m = c.args.self.now in
    let v = view g.M.Memory g.T.Tlb g.C.DecodeCache m in
    let e = c.in_err-instruction.ensures in
    let read = sym c.read.ensures.value ∙ read_some c.read.result c.in_ok-word.word (sym c.ok.ensures.value ∙ c.in_ok-word.ensures.ok_part) in
    let fails = code_illegal c.args.way v _ _ read (sym c.decode.ensures ∙ e.ok_part) c.failed.ensures in
    let cause = same_fault _ c.failed.result (e.value ∙ ap (λ o. ok_or o c.failed.result) e.ok_part) in
    let p = err_from_is_err_and c.from_residual-in_err-instruction.result c.from_residual-in_err-instruction.ensures.1 in
    rw (p.1, p.2, cause) (record {
      learned = record { answer = λ _. fails; state = λ _. refl; sound = λ s. s; same = refl };
      retained = retained_failed _ _ _ c.args.way m _ _ (λ _. fails);
    })

pub returns : goal.returns
returns g c =
    let m = c.args.self.now in
    let word = sym c.read.ensures.value ∙ read_some c.read.result c.in_ok-word.word (sym c.ok.ensures.value ∙ c.in_ok-word.ensures.ok_part) in
    let read : Read (g.M.Memory.bytes m.memory.now) c.args.way.address (record { word = c.in_ok-word.word; instruction = c.in_ok-instruction.instruction }) =
    record { word = word; instruction = sym c.decode.ensures ∙ c.in_ok-instruction.ensures.ok_part } in
    let finds = code_read c.args.way (view g.M.Memory g.T.Tlb g.C.DecodeCache m) _ read in
    record {
      retained = retained_found _ _ _ c.args.way m _ _ (λ _. finds) (λ r s. c.keep.ensures.retained r s.lines);
      learned =
          record {
            answer = λ _. finds;
            state = λ _. refl;
            sound = λ s. record { table = s.table; lines = c.keep.ensures.sound s.lines; coherent = coherent_kept _ _ _ _ _ s.coherent read (c.keep.ensures.held s.lines) };
            same = refl;
          };
    }
