use Rattle.std.proofs.Common.{sym, ◌∙◌}
use Rattle.std.proofs.lemmas.Bool.{cond-true, cond-false}
use Rattle.isa.specs.Decode.{decoded}
use Rattle.isa.proofs.decode.decode.Goals as goal

pub returns-then-bit : goal.returns-then-bit
unfolding decoded
returns-then-bit c = c.branching.ensures ∙ sym (cond-true _ _ _ (sym c.bit.ensures ∙ c.if-bit.true))

pub returns-else-bit : goal.returns-else-bit
unfolding decoded
returns-else-bit c = c.computing.ensures ∙ sym (cond-false _ _ _ (sym c.bit.ensures ∙ c.if-bit.false))
