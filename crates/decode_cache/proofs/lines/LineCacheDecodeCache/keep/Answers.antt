use Rattle.std.proofs.Common.{ap}
use Rattle.decode_cache.specs.declared.lines.Address.{Address}
use Rattle.decode_cache.proofs.lines.LineCacheDecodeCache.keep.Goals as goal

pub returns-clause-loses : goal.returns-clause-loses
returns-clause-loses c =
    let one = c.put.ensures.loses in
    let number = λ (a : Address). a.0 in
    record { lost = one.lost.0; others = λ a ne kept. one.others (record { 0 = a }) (λ e. ne (ap number e)) (λ e. kept (ap number e)) }
