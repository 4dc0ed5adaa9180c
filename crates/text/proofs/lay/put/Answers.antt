use Rattle.std.proofs.Common.{refl}
use Rattle.text.proofs.Laid.{copied_laid}
use Rattle.text.proofs.lay.put.Goals as goal

pub returns : goal.returns
returns c = record { place = refl; after = copied_laid _ _ _ _ c.copy_from_slice.ensures.after }
