use Rattle.std.proofs.Common.{Ok, ap, ◌∙◌}
use Rattle.image.specs.Parsed.{given}
use Rattle.loader.proofs.Loading.{load_starts}
use Rattle.loader.proofs.load.Goals as goal

pub loop-placed-init : goal.loop-placed-init
loop-placed-init g c =
    let begins = ap (λ r. Ok (given r)) c.into_iter-placed-iterator.ensures.into_iter_gives ∙ c.in_ok-placed-items.ensures in
    load_starts _ _ _ _ _ _ begins c.in_ok-scan.ensures.answer
