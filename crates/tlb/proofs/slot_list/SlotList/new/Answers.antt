use Rattle.std.proofs.Common.{refl}
use Rattle.tlb.proofs.Laws.{freed_nothing, freed_sound}
use Rattle.tlb.proofs.slot_list.SlotList.new.Goals as goal

pub returns : goal.returns
returns c =
    let rs = c.args.records.now in
    record {
      records = c.free.ensures;
      named = refl;
      sound = freed_sound rs c.free.new.records c.free.ensures;
      translations = freed_nothing rs c.free.new.records c.free.ensures;
    }
