use Rattle.std.proofs.Common.{arith}
use Rattle.quick_list.proofs.Following.{agree_removed, others_removed}
use Rattle.quick_list.proofs.QuickListTlb.remove.Goals as goal

pub returns-clause-sound : goal.returns-clause-sound
returns-clause-sound g c s =
    let t = c.remove.ensures in
    let rising = (g.T.Tlb.lawful c.args.self.now.table s.table).rising in
    record {
      table = t.sound s.table;
      lines = agree_removed _ _ _ _ c.args.page s.lines (rw (t.translations s.table) (others_removed _ c.args.page (omega arith) rising)) c.remove-2.ensures.held;
    }
