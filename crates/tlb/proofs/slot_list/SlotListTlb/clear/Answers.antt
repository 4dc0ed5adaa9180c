use Rattle.std.proofs.Common.{refl}
use Rattle.tlb.proofs.Laws.{freed_nothing, freed_sound, freed_slots}
use Rattle.tlb.proofs.slot_list.SlotListTlb.clear.Goals as goal

pub returns : goal.returns
returns c =
    let rs = c.args.self.now.records.now in
    record {
      translations = freed_nothing rs c.free.new.records c.free.ensures;
      slots = freed_slots rs c.free.new.records c.free.ensures;
      sound = freed_sound rs c.free.new.records c.free.ensures;
      roots = refl;
    }
