use Rattle.std.proofs.Common.{Ok, sym, ap, ◌∙◌}
use Rattle.std.proofs.lemmas.Bool.{eqb-true}
use Rattle.image.specs.Records.{asked}
use Rattle.image.specs.Parsed.{given_at}
use Rattle.image.proofs.Reading.{read_all_end, read_all_next, not_end}
use Rattle.image.proofs.records.Records.advance.Goals as goal

pub returns-then-is_empty : goal.returns-then-is_empty
returns-then-is_empty c =
    let end = ap (λ r. Ok (asked r, c.in_ok-record.rest.now)) (sym c.in-End.is) ∙ c.in_ok-record.ensures.answer in
    (read_all_end c.args.self.now.spot c.args.bytes.now c.in_ok-record.rest.now (eqb-true _ _ (sym c.if-is_empty.ensures)) end, ap (given_at _) c.requires.none)

pub returns-in_default : goal.returns-in_default
returns-in_default c = read_all_next _ _ _ _ (not_end _ c.in_default.not-End) c.in_ok-record.ensures.answer
