use Rattle.memory.proofs.Ranges.{range_outside, range_empty, range_marked, range_clear}
use Rattle.memory.proofs.range.check_range.Goals as goal

pub returns-then-not-ends_within : goal.returns-then-not-ends_within
returns-then-not-ends_within g c = range_outside _ _ c.args.address c.args.length c.if-not-ends_within.ensures

pub returns-then-length-eq0 : goal.returns-then-length-eq0
returns-then-length-eq0 g c = range_empty _ _ c.args.address c.args.length c.if-not-ends_within.ensures c.if-length-eq0.true

pub returns-then-any_marked : goal.returns-then-any_marked
returns-then-any_marked g c = range_marked _ _ c.args.address c.args.length c.if-not-ends_within.ensures c.if-length-eq0.false c.if-any_marked.ensures

pub returns : goal.returns
returns g c = range_clear _ _ c.args.address c.args.length c.if-not-ends_within.ensures c.if-length-eq0.false c.if-any_marked.ensures
