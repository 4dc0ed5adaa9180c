use Rattle.std.proofs.Common.{None, refl}
use Rattle.tlb.proofs.Laws.{removed, removed_sound, removed_nothing, slots_stay}
use Rattle.tlb.proofs.slot_list.SlotListTlb.remove.Goals as goal

pub returns-in-Some : goal.returns-in-Some
returns-in-Some c =
    let rs = c.args.self.now.records.now in
    let i = c.in-Some.i in
    record {
      translations = λ d. removed rs d c.args.page.segment c.args.page.number i c.in-Some.ensures;
      slots = slots_stay rs i None;
      sound = λ d. removed_sound rs d i;
      roots = refl;
    }

pub returns-in_default : goal.returns-in_default
returns-in_default c =
    record {
      translations = λ d. removed_nothing c.args.self.now.records.now d c.args.page.segment c.args.page.number c.in_default.ensures;
      slots = refl;
      sound = λ d. d;
      roots = refl;
    }
