use Rattle.std.proofs.Common.{◌-◌, ◌^◌, ◌<◌, ap, ◌∙◌, arith}
use Rattle.std.proofs.lemmas.Nat.{pow_below}
use Rattle.isa.specs.Fields.{sign_filled}
use Rattle.isa.proofs.Signs.{filled, field_below}
use Rattle.isa.proofs.fields.signed_bits.Goals as goal

pub returns-else-value-half : goal.returns-else-value-half
returns-else-value-half c =
    let half = 2 ^ (c.args.last - c.args.first) in
    let small : half < 2 ^ 31 = pow_below (c.args.last - c.args.first) 31 (omega arith) in
    let below = field_below c.args.first c.args.last c.args.word (omega arith) in
    let value = c.bits-value.ensures in
    filled c.bits-value.result half small (omega arith) (omega arith) ∙ ap (sign_filled half) value
