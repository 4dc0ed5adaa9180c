use Rattle.quick_list.proofs.Following.{agree_empty}
use Rattle.quick_list.proofs.QuickList.new.Goals as goal

pub returns-clause-sound : goal.returns-clause-sound
returns-clause-sound g c s = record { table = s; lines = agree_empty _ _ c.new.ensures.held }
