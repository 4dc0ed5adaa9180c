use Rattle.std.proofs.Common.{◌++◌, length, ok_or, refl, sym, ap, ◌∙◌}
use Rattle.memory.specs.Joining.{joined_marks}
use Rattle.std.proofs.lemmas.Result.{err_from_is_err_and}
use Rattle.memory.specs.declared.memory.MemoryFault.TheVariants.{Outside}
use Rattle.memory.proofs.Seams.{at_seam, told_again, seamless, apart_writing, apart_written, writing_below, written_below, writing_above, written_above}
use Rattle.memory.proofs.joined.JoinedMemory.write.Goals as goal

pub returns-in_err-seam : goal.returns-in_err-seam
returns-in_err-seam g c =
    let m = c.args.self.now in
    let ms = g.L.Memory.marks m.lower in
    let ns = g.U.Memory.marks m.upper in
    let bs = g.L.Memory.bytes m.lower in
    let cs = g.U.Memory.bytes m.upper in
    let apart = seamless (length ms) (length ns) (sym c.in_err-seam.ensures.ok_part ∙ c.seam.ensures) in
    let fault = told_again _ _ (c.in_err-seam.ensures.value ∙ ap (λ o. ok_or o Outside) c.in_err-seam.ensures.ok_part) in
    let p = err_from_is_err_and c.from_residual.result c.from_residual.ensures.1 in
    rw (p.1, p.2) (record {
      answer = fault ∙ apart_writing bs ms cs ns apart c.args.width c.args.address (joined_marks ms ns);
      after = apart_written bs ms cs ns apart c.args.width c.args.address (joined_marks ms ns) c.args.value;
      same = refl;
      rooted = refl;
    })

pub returns-then-address-split : goal.returns-then-address-split
returns-then-address-split g c =
    let m = c.args.self.now in
    let ms = g.L.Memory.marks m.lower in
    let ns = g.U.Memory.marks m.upper in
    let bs = g.L.Memory.bytes m.lower in
    let cs = g.U.Memory.bytes m.upper in
    let p = g.L.Memory.paged m.lower in
    let seam = at_seam (length ms) (length ns) _ (sym c.in_ok-seam.ensures.ok_part ∙ c.seam.ensures) in
    let low = c.if-address-split.true in
    let w = c.write.ensures in
    record {
      answer = w.answer ∙ writing_below ms ns _ seam bs cs p c.args.width c.args.address low;
      after = written_below ms ns _ seam bs cs p c.args.width c.args.address low c.args.value _ _ w.after w.same;
      same = ap (λ ks. joined_marks ks ns) w.same;
      rooted = ap (λ names. names ++ g.U.Memory.roots m.upper) w.rooted;
    }

pub returns-else-address-split : goal.returns-else-address-split
returns-else-address-split g c =
    let m = c.args.self.now in
    let ms = g.L.Memory.marks m.lower in
    let ns = g.U.Memory.marks m.upper in
    let bs = g.L.Memory.bytes m.lower in
    let cs = g.U.Memory.bytes m.upper in
    let p = g.L.Memory.paged m.lower in
    let seam = at_seam (length ms) (length ns) _ (sym c.in_ok-seam.ensures.ok_part ∙ c.seam.ensures) in
    let high = c.if-address-split.false in
    let w = c.write-else-address-split.ensures in
    record {
      answer = w.answer ∙ writing_above ms ns _ seam bs cs p c.args.width c.args.address high;
      after = written_above ms ns _ seam bs cs p c.args.width c.args.address high c.args.value _ _ w.after w.same;
      same = ap (joined_marks ms) w.same;
      rooted = ap (λ names. g.L.Memory.roots m.lower ++ names) w.rooted;
    }
