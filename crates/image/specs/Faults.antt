-- What is wrong with an image, and the refusal that each fault rises to.
use Rattle.refusal.specs.declared.Refusal.TheVariants.{BadImage, CutRecord, UnknownRecord, BadEnd}
use Rattle.refusal.specs.declared.Layer.TheVariants.{Image}
use Rattle.refusal.specs.declared.Refused.{Refused}
use Rattle.image.specs.declared.ImageFault.{ImageFault}
use Rattle.image.specs.declared.ImageFault.TheVariants.{NoImage, Cut, Unknown, NoEnd}
use Rattle.image.specs.declared.LoadRefused.{LoadRefused}
use Rattle.image.specs.declared.Spot.{Spot}

abbrev pub raised : ImageFault → Refused
raised NoImage = record { refusal = BadImage; layer = Image }
raised Cut = record { refusal = CutRecord; layer = Image }
raised Unknown = record { refusal = UnknownRecord; layer = Image }
raised NoEnd = record { refusal = BadEnd; layer = Image }

-- a refusal with the number and the place of the record that it is of
abbrev pub refused_at : Spot → Refused → LoadRefused
refused_at spot refused = record { refused = refused; spot = spot }
