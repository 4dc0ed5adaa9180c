use Rattle.std.proofs.Common.{length, codes, decimal, sym, ap, ◌∙◌, arith}
use Rattle.text.specs.Report.{head_text, over}
use Rattle.text.proofs.Decimal.{length_of_32_bits}
use Rattle.text.proofs.Laid.{Line, three_laid}
use Rattle.text.proofs.put_head.Goals as goal

pub put_decimal-counted-requires : goal.put_decimal-counted-requires
put_decimal-counted-requires c = omega (arith, length_of_32_bits c.args.steps (omega arith))

pub put-requires : goal.put-requires
put-requires c = omega (arith, length_of_32_bits c.args.steps (omega arith))

pub put-requires-else-halted : goal.put-requires-else-halted
put-requires-else-halted c = omega (arith, length_of_32_bits c.args.steps (omega arith))

pub returns-then-halted : goal.returns-then-halted
unfolding head_text
returns-then-halted c =
    let line : Line (codes "STEPS ") (decimal c.args.steps) (codes " HALTED\n") c.args.buffer.now c.put.new.buffer c.put.result =
    three_laid _ _ _ _ _ _ _ _ _ _ c.put-named.ensures.after c.put-named.ensures.place c.put_decimal-counted.ensures.after c.put_decimal-counted.ensures.place c.put.ensures.after c.put.ensures.place
    in
    let word = ap (head_text c.args.steps) (sym c.if-halted.true) in
    record {
      place = line.next ∙ ap length word;
      short = omega (arith, length_of_32_bits c.args.steps (omega arith));
      after = line.text ∙ ap (λ text. over text c.args.buffer.now) word;
    }

pub returns-else-halted : goal.returns-else-halted
unfolding head_text
returns-else-halted c =
    let line : Line (codes "STEPS ") (decimal c.args.steps) (codes " SPENT\n") c.args.buffer.now c.put-else-halted.new.buffer c.put-else-halted.result =
    three_laid _ _ _ _ _ _ _ _ _ _ c.put-named.ensures.after c.put-named.ensures.place c.put_decimal-counted.ensures.after c.put_decimal-counted.ensures.place c.put-else-halted.ensures.after c.put-else-halted.ensures.place
    in
    let word = ap (head_text c.args.steps) (sym c.if-halted.false) in
    record {
      place = line.next ∙ ap length word;
      short = omega (arith, length_of_32_bits c.args.steps (omega arith));
      after = line.text ∙ ap (λ text. over text c.args.buffer.now) word;
    }
