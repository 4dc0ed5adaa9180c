use Rattle.std.proofs.Common.{◌∙◌, sym, subst, arith}
use Rattle.tlb.proofs.Laws.{refused_unchanged}
use Rattle.quick_list.specs.Lines.{Agree}
use Rattle.quick_list.proofs.Following.{agree_put, own_inserted, others_inserted}
use Rattle.quick_list.proofs.QuickListTlb.insert.Goals as goal

-- a refused insert spoils no line
pub returns-in_err-insert-clause-sound : goal.returns-in_err-insert-clause-sound
returns-in_err-insert-clause-sound g c s =
    let t = c.in_err-insert.ensures in
    record { table = t.sound s.table; lines = subst (λ ts. Agree ts c.args.self.now.lines) (sym (t.translations s.table ∙ refused_unchanged _ _ _ _ (t.answer s.table))) s.lines }

pub returns-clause-sound : goal.returns-clause-sound
returns-clause-sound g c s =
    let t = c.in_ok-insert.ensures in
    let new = c.args.translation in
    let same = t.translations s.table in
    let ok = sym (t.answer s.table) in
    record {
      table = t.sound s.table;
      lines = agree_put _ _ _ _ new.page s.lines (rw same (others_inserted _ _ new (omega arith) ok)) _ (rw same (own_inserted _ _ new ok)) c.put.ensures.held;
    }
