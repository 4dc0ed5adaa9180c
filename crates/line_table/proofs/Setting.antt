-- What lines hold after one of them is set.
use Rattle.std.proofs.Common.{◌≡◌, ℕ, ◌%◌, ◌<◌, ◌≢◌, ◌↔◌, Bool, true, cond, List, length, get_or, set, Some, None, Option, refl, ap, arith}
use Rattle.std.proofs.lemmas.List.{get_or-set_same, get_or-set_other}
use Rattle.std.proofs.lemmas.Grind.{common_steps}
use Rattle.line_table.specs.declared.Line.{Line}
use Rattle.line_table.specs.Held.{Fewer, LosesOne, with_one}
use Rattle.line_table.specs.Lines.{in_line, held}

module _ {K V : Type 0} (eq : K → K → Bool) (whole : (a b : K) → (eq a b ≡ true) ↔ (a ≡ b)) (fold : K → ℕ) (n : ℕ) (ls : List (Option (Line K V))) (at : K) (new : V) where
  abbrev after : List (Option (Line K V))
  after = set ls (fold at % n) (Some (record { key = at; value = new }))

  -- in its own line stands the new value alone
  in_own : (k : K) → fold at % n < length ls → fold k % n ≡ fold at % n → held eq fold n after k ≡ cond (eq at k) (Some new) None
  in_own k within same = rw same (ap (λ x. in_line eq x k) (get_or-set_same ls (fold at % n) _ None within))

  elsewhere : (k : K) → fold k % n ≢ fold at % n → held eq fold n after k ≡ held eq fold n ls k
  elsewhere k other = ap (λ x. in_line eq x k) (get_or-set_other ls (fold at % n) (fold k % n) _ None other)

  pub kept_fewer : fold at % n < length ls → Fewer (held eq fold n after) (with_one eq (held eq fold n ls) at new)
  kept_fewer within k v e = grind (arith, common_steps, elsewhere k, in_own k within, whole k at, whole at k, λ (same : k ≡ at). ap fold same)

  -- the key that a line has, or any where it has none
  abbrev owner : Option (Line K V) → K
  owner None = at
  owner (Some l) = l.key

  not_owner : (x : Option (Line K V)) (k : K) → k ≢ owner x → in_line eq x k ≡ None
  not_owner None k other = refl
  not_owner (Some l) k other = grind (arith, common_steps, whole l.key k)

  -- the value that the line had before is the one that is lost
  pub loses_one : fold at % n < length ls → LosesOne at (held eq fold n after) (held eq fold n ls)
  loses_one within =
      record {
        lost = owner (get_or ls (fold at % n) None);
        others = λ k ne kept. let gone = not_owner (get_or ls (fold at % n) None) k kept in grind (arith, common_steps, elsewhere k, in_own k within, whole at k);
      }
