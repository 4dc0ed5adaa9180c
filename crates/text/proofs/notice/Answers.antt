use Rattle.std.proofs.Common.{◌≤◌, length, Ok, codes, decimal, ap, arith}
use Rattle.std.proofs.lemmas.Bool.{cond_above}
use Rattle.text.specs.Report.{notice_text}
use Rattle.text.proofs.Decimal.{length_of_64_bits}
use Rattle.text.proofs.Laid.{Line, three_laid}
use Rattle.text.proofs.notice.Goals as goal

pub put_decimal-counted-requires : goal.put_decimal-counted-requires
put_decimal-counted-requires c = omega (arith, length_of_64_bits c.args.number (omega arith))

pub put-requires : goal.put-requires
put-requires c = omega (arith, length_of_64_bits c.args.number (omega arith))

pub returns : goal.returns
unfolding notice_text
returns c =
    let line : Line (codes "REFUSED ") (decimal c.args.number) (codes "\n") c.args.buffer.now c.put.new.buffer c.put.result =
    three_laid _ _ _ _ _ _ _ _ _ _ c.put-named.ensures.after c.put-named.ensures.place c.put_decimal-counted.ensures.after c.put_decimal-counted.ensures.place c.put.ensures.after c.put.ensures.place
    in
    let room : 256 ≤ length c.args.buffer.now = omega arith in
    record {
      answer = cond_above (length c.args.buffer.now) 256 _ _ _ room (ap Ok line.next);
      buffer = cond_above (length c.args.buffer.now) 256 _ _ _ room line.text;
      short = omega (arith, length_of_64_bits c.args.number (omega arith));
    }
