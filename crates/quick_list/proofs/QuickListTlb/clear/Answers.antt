use Rattle.quick_list.proofs.Following.{agree_empty}
use Rattle.quick_list.proofs.QuickListTlb.clear.Goals as goal

pub returns-clause-sound : goal.returns-clause-sound
returns-clause-sound g c = record { table = c.clear.ensures.sound; lines = agree_empty _ _ c.clear-2.ensures.held }
