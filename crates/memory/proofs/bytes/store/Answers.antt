use Rattle.std.proofs.Common.{◌≡◌, arith, rules}
use Rattle.std.proofs.lemmas.Bool.Decides.{nat_tests}
use Rattle.memory.proofs.Widths.{stored_one, copied_two, copied_four}
use Rattle.memory.proofs.bytes.store.Goals as goal

pub returns-in-1 : goal.returns-in-1
returns-in-1 c = search (rules, stored_one)

pub returns-in-2 : goal.returns-in-2
returns-in-2 c = search (rules, copied_two)

pub returns-in_default : goal.returns-in_default
returns-in_default c = let four : c.args.width ≡ 4 = grind (arith, nat_tests) in search (rules, copied_four)
