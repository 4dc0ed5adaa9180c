-- A decode cache stays coherent with memory.
use Rattle.std.proofs.Common.{◌≡◌, ℕ, ◌*◌, ◌/◌, Bool, true, false, cond, eqb, List, Some, None, refl, ap, ◌∙◌, arith}
use Rattle.std.proofs.lemmas.Bool.{eqb-true, eqb-false}
use Rattle.memory.specs.Access.{reading, written}
use Rattle.memory.proofs.Words.{other_word_kept, read_aligned}
use Rattle.decode_cache.specs.declared.cache.Decoded.{Decoded}
use Rattle.decode_cache.specs.Held.{Held, Fewer, with_one, without_one, nothing}
use Rattle.machine.specs.Coherence.{Read, Coherent}

pub coherent_nothing : (bs : List ℕ) (t : Held) → Fewer t nothing → Coherent bs t
unfolding Coherent
coherent_nothing bs t none a d e = let h = none a d e in let z : ◌≡◌ {A = ℕ} 0 1 = cc in absurd (omega arith)

-- what was kept is what memory has
pub coherent_kept : (bs : List ℕ) (t u : Held) (at : ℕ) (new : Decoded) → Coherent bs t → Read bs at new → Fewer u (with_one t at new) → Coherent bs u
unfolding Coherent
coherent_kept bs t u at new old read fewer a d e = by_address (eqb a at) refl (fewer a d e)
  where
    by_address : (b : Bool) → eqb a at ≡ b → cond b (Some new) (t a) ≡ Some d → Read bs a d
    by_address true same h =
        let at_a : a ≡ at = eqb-true a at same in
        let is : new ≡ d = cc in
        record { word = ap (reading bs 4) at_a ∙ read.word ∙ cc; instruction = cc }
    by_address false other h = old a d h

-- memory was written, and the word that was touched is forgotten
pub coherent_written : (bs us : List ℕ) (marks : List Bool) (w p v : ℕ) (t u : Held) → Coherent bs t → us ≡ written bs marks w p v → Fewer u (without_one t (p / 4 * 4)) → Coherent us u
unfolding Coherent
coherent_written bs us marks w p v t u old is fewer a d e = by_address (eqb a (p / 4 * 4)) refl (fewer a d e)
  where
    by_address : (b : Bool) → eqb a (p / 4 * 4) ≡ b → cond b None (t a) ≡ Some d → Read us a d
    by_address true same h = let z : ◌≡◌ {A = ℕ} 0 1 = cc in absurd (omega arith)
    by_address false other h =
        let read = old a d h in
        let even = read_aligned bs a d.word read.word in
        let ne = eqb-false a (p / 4 * 4) other in
        let elsewhere : a / 4 ≡ p / 4 → ⊥ = λ q. ne (omega arith) in
        record {
          word = ap (λ (xs : List ℕ). reading xs 4 a) is ∙ other_word_kept bs marks w p v a elsewhere ∙ read.word;
          instruction = read.instruction;
        }
