use Rattle.std.proofs.Common.{◌∙◌, arith, rules}
use Rattle.std.proofs.lemmas.Iterator.{YieldsList-from_slice}
use Rattle.std.proofs.lemmas.Iterator.Search.{any_from_yields_List}
use Rattle.registers.specs.Protection.{holds}
use Rattle.registers.proofs.Pairs.{listed_pairs}
use Rattle.registers.proofs.registers.Registers.lists.Goals as goal

pub returns : goal.returns
returns c =
    let cr = c.args.self.now.cr in
    any_from_yields_List (λ pair. holds pair c.args.segment) _ _ _ c.any.ensures.ran (YieldsList-from_slice _ c.iter.ensures.rest) (λ x b q k. search rules)
    ∙ listed_pairs c.args.segment cr (omega arith)
