use Rattle.std.proofs.Common.{◌≡◌}
use Rattle.image.specs.Parsed.{given, parsed, says, whole}
use Rattle.image.proofs.whole.scan.Given as goal

abbrev pub invariant-loop-record : goal.invariant-loop-record
invariant-loop-record l = says (parsed l.image) ≡ says (whole (given l.record-iterator))
