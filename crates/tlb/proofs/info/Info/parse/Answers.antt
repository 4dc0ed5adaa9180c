use Rattle.std.proofs.Common.{arith}
use Rattle.tlb.proofs.Infos.{info_named, info_unnamed}
use Rattle.tlb.proofs.info.Info.parse.Goals as goal
use Rattle.tlb.proofs.info.Info.parse.Goals.{else-word-eq0-via-then-word-eq0+else-word-eq0-2, else-word-eq0-via-else-word-eq0}

pub returns-then-word-eq0-2 : goal.returns-then-word-eq0-2
returns-then-word-eq0-2 c = info_named c.args.word _

pub returns-else-word-eq0 : goal.returns-else-word-eq0
returns-else-word-eq0 c =
    elim c.else-word-eq0.branch [
      | else-word-eq0-via-then-word-eq0+else-word-eq0-2 w ↦ info_unnamed c.args.word (λ e. w.if-word-eq0-2.false (omega arith))
      | else-word-eq0-via-else-word-eq0 w ↦ info_unnamed c.args.word (λ e. w.if-word-eq0.false (omega arith))
    ]
