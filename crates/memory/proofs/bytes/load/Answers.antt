use Rattle.std.proofs.Common.{◌≡◌, arith, rules}
use Rattle.std.proofs.lemmas.Bool.Decides.{nat_tests}
use Rattle.memory.proofs.Widths.{number_one, number_two, number_four}
use Rattle.memory.proofs.bytes.load.Goals as goal

pub returns-in-1 : goal.returns-in-1
returns-in-1 c = search (rules, number_one)

pub returns-in-2 : goal.returns-in-2
returns-in-2 c = search (rules, number_two)

pub returns-in_default : goal.returns-in_default
returns-in_default c = let four : c.args.width ≡ 4 = grind (arith, nat_tests) in search (rules, number_four)
