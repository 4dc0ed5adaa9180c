-- The pairs of protection ids, as a part of the control registers.
use Rattle.std.proofs.Common.{◌≡◌, ℕ, ◌≤◌, ◌||◌, List, [], ◌∷◌, length, get_or, take, drop, refl, ap, ◌∙◌, arith}
use Rattle.std.proofs.Math.Bool.{or-false}
use Rattle.std.specs.List.{list_any}
use Rattle.registers.specs.Protection.{holds}

-- the four registers from CR4 on
four : (c : List ℕ) → 8 ≤ length c → take 4 (drop 4 c) ≡ get_or c 4 0 ∷ (get_or c 5 0 ∷ (get_or c 6 0 ∷ (get_or c 7 0 ∷ [])))
four [] h = absurd (omega arith)
four (_ ∷ []) h = absurd (omega arith)
four (_ ∷ (_ ∷ [])) h = absurd (omega arith)
four (_ ∷ (_ ∷ (_ ∷ []))) h = absurd (omega arith)
four (_ ∷ (_ ∷ (_ ∷ (_ ∷ [])))) h = absurd (omega arith)
four (_ ∷ (_ ∷ (_ ∷ (_ ∷ (_ ∷ []))))) h = absurd (omega arith)
four (_ ∷ (_ ∷ (_ ∷ (_ ∷ (_ ∷ (_ ∷ [])))))) h = absurd (omega arith)
four (_ ∷ (_ ∷ (_ ∷ (_ ∷ (_ ∷ (_ ∷ (_ ∷ []))))))) h = absurd (omega arith)
four (_ ∷ (_ ∷ (_ ∷ (_ ∷ (_ ∷ (_ ∷ (_ ∷ (_ ∷ c)))))))) h = refl

pub listed_pairs : (segment : ℕ) (c : List ℕ) → 8 ≤ length c → list_any (λ pair. holds pair segment) (take 4 (drop 4 c)) ≡ (holds (get_or c 4 0) segment || (holds (get_or c 5 0) segment || (holds (get_or c 6 0) segment || holds (get_or c 7 0) segment)))
listed_pairs segment c h = ap (list_any (λ pair. holds pair segment)) (four c h) ∙ rw or-false refl
