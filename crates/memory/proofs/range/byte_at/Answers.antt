use Rattle.std.proofs.Common.{rules}
use Rattle.memory.proofs.Ranges.{byte_read}
use Rattle.memory.proofs.range.byte_at.Goals as goal

pub returns : goal.returns
returns g c = let e = byte_read (g.M.Memory.bytes c.args.memory.now) c.args.address c.read.result c.read.ensures.value in search rules
