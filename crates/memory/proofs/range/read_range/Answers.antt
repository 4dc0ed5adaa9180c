use Rattle.std.proofs.Common.{◌<◌, ◌≢◌, length, ◌∙◌, arith, below_more}
use Rattle.std.proofs.lemmas.List.{get_or-set_same, get_or-set_other}
use Rattle.memory.proofs.Ranges.{read_past, read_nothing, read_within, read_all}
use Rattle.memory.proofs.range.read_range.Goals as goal

pub returns-then-not-ends_within : goal.returns-then-not-ends_within
returns-then-not-ends_within g c =
    let past = c.if-not-ends_within.ensures in
    record { answer = read_past _ c.args.address c.args.buffer.now past; buffer = read_nothing _ c.args.address c.args.buffer.now past }

pub loop-i-preserved : goal.loop-i-preserved
loop-i-preserved g c =
    let i = c.loop-i.i in
    let now = c.loop-i.buffer in
    let here : i < length now = omega arith in
    below_more _ _ (λ k h. let ne : k ≢ i = omega arith in get_or-set_other now i k c.byte_at.result 0 ne ∙ c.loop-i.invariant k h)
    (get_or-set_same now i c.byte_at.result 0 here ∙ c.byte_at.ensures)

pub returns : goal.returns
returns g c =
    let ends = c.if-not-ends_within.ensures in
    record {
      answer = read_within _ c.args.address c.args.buffer.now ends;
      buffer = read_all _ c.args.address c.args.buffer.now ends c.loop-i.buffer c.loop-i.auto.buffer (λ k h. c.loop-i.invariant k (omega arith));
    }
