use Rattle.decode_cache.proofs.lines.LineCacheDecodeCache.clear.Goals as goal

pub returns-clause-held : goal.returns-clause-held
returns-clause-held c a = c.clear.ensures.held (record { 0 = a })
