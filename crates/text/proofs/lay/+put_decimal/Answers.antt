use Rattle.std.proofs.Common.{◌∙◌, arith}
use Rattle.text.proofs.Decimal.{length_one, length_more, laid_one, laid_more}
use Rattle.text.proofs.lay.+put_decimal.Goals as goal

pub put-requires : goal.put-requires
put-requires t c = omega (arith, length_one c.args.number (omega arith))

pub put_decimal-front-requires : goal.put_decimal-front-requires
put_decimal-front-requires t c = (omega arith, omega (arith, length_more c.args.number (omega arith) (omega arith)))

pub put-requires-else-number-lt10 : goal.put-requires-else-number-lt10
put-requires-else-number-lt10 t c = omega (arith, length_more c.args.number (omega arith) (omega arith))

pub returns-then-number-lt10 : goal.returns-then-number-lt10
returns-then-number-lt10 t c =
    record {
      place = omega (arith, length_one c.args.number (omega arith));
      after = c.put.ensures.after ∙ laid_one _ c.args.number _ (omega arith);
    }

pub returns-else-number-lt10 : goal.returns-else-number-lt10
returns-else-number-lt10 t c =
    let whole = laid_more c.args.at c.args.number c.args.buffer.now (omega arith) (omega arith) (omega arith) in
    record {
      place = omega (arith, length_more c.args.number (omega arith) (omega arith));
      after = cc whole;
    }
