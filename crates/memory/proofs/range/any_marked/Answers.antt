use Rattle.std.proofs.Common.{◌-◌, false, get_or, ◌∙◌, refl, rules}
use Rattle.std.proofs.lemmas.Iterator.{YieldsList-from_range}
use Rattle.std.proofs.lemmas.Iterator.Search.{any_from_yields_List}
use Rattle.memory.proofs.Ranges.{any_marked}
use Rattle.memory.proofs.range.any_marked.Goals as goal

pub returns : goal.returns
returns g c =
    any_from_yields_List (λ page. get_or (g.M.Memory.marks c.args.memory.now) page false) _ _ _ c.any.ensures.ran (YieldsList-from_range c.args.first c.args.end (c.args.end - c.args.first) refl refl) (λ x b q k. search rules)
    ∙ any_marked _ c.args.first (c.args.end - c.args.first)
