use Rattle.std.proofs.Common.{length, sym, ap, ◌∙◌, ok_or}
use Rattle.std.proofs.lemmas.Result.{err_from_is_err_and}
use Rattle.memory.specs.declared.memory.MemoryFault.TheVariants.{Outside}
use Rattle.memory.proofs.Seams.{at_seam, seamless, apart_reading, reading_below, reading_above}
use Rattle.memory.proofs.joined.JoinedMemory.read.Goals as goal

pub returns-in_err-seam : goal.returns-in_err-seam
returns-in_err-seam g c =
    let m = c.args.self.now in
    let ms = g.L.Memory.marks m.lower in
    let ns = g.U.Memory.marks m.upper in
    let bs = g.L.Memory.bytes m.lower in
    let cs = g.U.Memory.bytes m.upper in
    let apart = seamless (length ms) (length ns) (sym c.in_err-seam.ensures.ok_part ∙ c.seam.ensures) in
    let fault = c.in_err-seam.ensures.value ∙ ap (λ o. ok_or o Outside) c.in_err-seam.ensures.ok_part in
    let p = err_from_is_err_and c.from_residual.result c.from_residual.ensures.1 in
    rw (p.1, p.2) (record { value = fault ∙ apart_reading bs ms cs ns apart c.args.width c.args.address; small = tt })

pub returns-then-address-split : goal.returns-then-address-split
returns-then-address-split g c =
    let m = c.args.self.now in
    let ms = g.L.Memory.marks m.lower in
    let ns = g.U.Memory.marks m.upper in
    let bs = g.L.Memory.bytes m.lower in
    let cs = g.U.Memory.bytes m.upper in
    let p = g.L.Memory.paged m.lower in
    let seam = at_seam (length ms) (length ns) _ (sym c.in_ok-seam.ensures.ok_part ∙ c.seam.ensures) in
    let r = c.read.ensures in
    record { value = r.value ∙ reading_below ms ns _ seam bs cs p c.args.width c.args.address c.if-address-split.true; small = r.small }

pub returns-else-address-split : goal.returns-else-address-split
returns-else-address-split g c =
    let m = c.args.self.now in
    let ms = g.L.Memory.marks m.lower in
    let ns = g.U.Memory.marks m.upper in
    let bs = g.L.Memory.bytes m.lower in
    let cs = g.U.Memory.bytes m.upper in
    let p = g.L.Memory.paged m.lower in
    let seam = at_seam (length ms) (length ns) _ (sym c.in_ok-seam.ensures.ok_part ∙ c.seam.ensures) in
    let r = c.read-else-address-split.ensures in
    record { value = r.value ∙ reading_above ms ns _ seam bs cs p c.args.width c.args.address c.if-address-split.false; small = r.small }
