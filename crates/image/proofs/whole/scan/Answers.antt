use Rattle.std.proofs.Common.{Ok, arith}
use Rattle.image.proofs.Reading.{says_cons}
use Rattle.image.proofs.Accepted.{accepts_exactly}
use Rattle.image.proofs.whole.scan.Goals as goal

pub returns-in_err-record-clause-accepts : goal.returns-in_err-record-clause-accepts
returns-in_err-record-clause-accepts c = accepts_exactly _ _ c.type_inv.image (grind (arith, says_cons))

pub returns-clause-accepts : goal.returns-clause-accepts
returns-clause-accepts c = accepts_exactly c.args.image.now (Ok tt) c.type_inv.image (grind (arith, says_cons))
