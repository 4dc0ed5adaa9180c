use Rattle.std.proofs.Common.{sym, refl, ◌∙◌, arith}
use Rattle.quick_list.specs.Lines.{Agree}
use Rattle.quick_list.proofs.Following.{agree_put, holding}
use Rattle.quick_list.proofs.QuickListTlb.find.Goals as goal

-- a line is for the page
pub returns-in-Some-clause-lined : goal.returns-in-Some-clause-lined
returns-in-Some-clause-lined g c = holding _ c.args.page _ (sym c.find.ensures ∙ c.in-Some.is)

pub returns-in-Some-clause-answer : goal.returns-in-Some-clause-answer
unfolding Agree
returns-in-Some-clause-answer g c s = sym (s.lines c.args.page _ (omega arith) (sym c.find.ensures ∙ c.in-Some.is))

-- the table below has the page
pub returns-clause-lined : goal.returns-clause-lined
returns-clause-lined g c = holding _ c.args.page _ (c.put.ensures.retained (omega arith))

pub returns-clause-sound : goal.returns-clause-sound
returns-clause-sound g c s =
    let t = c.in_ok-info.ensures in
    let same = t.translations s.table in
    record {
      table = t.sound s.table;
      lines = agree_put _ _ _ _ c.args.page s.lines (λ p real other. rw same refl) _ (rw same (sym (t.answer s.table))) c.put.ensures.held;
    }
