-- What is held under a key stands in the key's line, whole.
use Rattle.std.proofs.Common.{◌≡◌, ◌↔◌, Bool, true, Some, None, Option, ap₂, arith}
use Rattle.std.proofs.lemmas.Grind.{common_steps}
use Rattle.line_table.specs.declared.Line.{Line}
use Rattle.line_table.specs.Lines.{in_line}

module _ {K V : Type 0} (eq : K → K → Bool) (whole : (a b : K) → (eq a b ≡ true) ↔ (a ≡ b)) where
  abbrev line : K → V → Option (Line K V)
  line k v = Some (record { key = k; value = v })

  pub stands_whole : (x : Option (Line K V)) (k : K) (v : V) → in_line eq x k ≡ Some v → x ≡ Some (record { key = k; value = v })
  stands_whole None k v e = cc
  stands_whole (Some l) k v e =
      let here : l.key ≡ k = grind (arith, common_steps, whole l.key k) in
      let own : l.value ≡ v = grind (arith, common_steps, whole l.key k) in
      ap₂ line here own
