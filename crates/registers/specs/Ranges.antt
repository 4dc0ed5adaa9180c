-- Writes keep the ranges of the registers.
use Rattle.std.specs.Prelude.{◌≡◌, ℕ, zero, suc, ◌*◌, ◌/◌, ◌%◌, Bool, true, false, cond, ◌≢◌, List, [], ◌∷◌, ◌==◌, slice_index, slice_set, refl}
use Rattle.std.proofs.Common.{sym, ap, ◌∙◌, arith, get_or-set_other}
use Rattle.std.proofs.lemmas.Bool.{cond_both, eqb-true, eqb-false}

-- the general registers after a write: GR0 ignores it
abbrev pub gr_put : List ℕ → ℕ → ℕ → List ℕ
gr_put g n v = cond (n == 0) g (slice_set g n v)

pub zero_kept : (g : List ℕ) (n v : ℕ) → slice_index g 0 ≡ 0 → slice_index (gr_put g n v) 0 ≡ 0
zero_kept g n v z =
    cond_both (n == 0) g (slice_set g n v) (λ (h : List ℕ). slice_index h 0 ≡ 0) (λ _. z)
    (λ f. get_or-set_other g n 0 v 0 (λ e. eqb-false n 0 f (sym e)) ∙ z)

-- the lowest bits that fit a control register: CR2 has five
abbrev pub cr_fitted : ℕ → ℕ → ℕ
cr_fitted n v = cond (n == 2) (v % 32) v

abbrev pub cr_put : List ℕ → ℕ → ℕ → List ℕ
cr_put c n v = slice_set c n (cr_fitted n v)

abbrev Narrow : ℕ → Type 0
Narrow x = x % 32 ≡ x

-- what a list has at a place where a narrow number was put, if there is such a place
narrow_at : (c : List ℕ) (i x : ℕ) → Narrow x → Narrow (slice_index c i) → Narrow (slice_index (slice_set c i x) i)
narrow_at [] i x new old = old
narrow_at (y ∷ c) zero x new old = new
narrow_at (y ∷ c) (suc i) x new old = narrow_at c i x new old

pub narrow_kept : (c : List ℕ) (n v : ℕ) → slice_index c 2 % 32 ≡ slice_index c 2 → slice_index (cr_put c n v) 2 % 32 ≡ slice_index (cr_put c n v) 2
narrow_kept c n v old =
    by_number (n == 2) refl
  where
    by_number : (b : Bool) → (n == 2) ≡ b → Narrow (slice_index (slice_set c n (cond b (v % 32) v)) 2)
    by_number true e =
        ap (λ (m : ℕ). slice_index (slice_set c m (v % 32)) 2 % 32) (eqb-true n 2 e) ∙ narrow_at c 2 (v % 32) (omega arith) old ∙ sym (ap (λ (m : ℕ). slice_index (slice_set c m (v % 32)) 2) (eqb-true n 2 e))
    by_number false e =
        ap (λ (x : ℕ). x % 32) (get_or-set_other c n 2 v 0 (λ q. eqb-false n 2 e (sym q))) ∙ old ∙ sym (get_or-set_other c n 2 v 0 (λ q. eqb-false n 2 e (sym q)))

-- CR2 among control registers of which CR17 to CR21 were written
pub narrow_saved : (c : List ℕ) (x17 x18 x19 x20 x21 : ℕ) → slice_index c 2 % 32 ≡ slice_index c 2 → slice_index (slice_set (slice_set (slice_set (slice_set (slice_set c 17 x17) 18 x18) 19 x19) 20 x20) 21 x21) 2 % 32 ≡ slice_index (slice_set (slice_set (slice_set (slice_set (slice_set c 17 x17) 18 x18) 19 x19) 20 x20) 21 x21) 2
narrow_saved c x17 x18 x19 x20 x21 old =
    let d17 : ◌≢◌ {A = ℕ} 2 17 = λ e. omega arith in
    let d18 : ◌≢◌ {A = ℕ} 2 18 = λ e. omega arith in
    let d19 : ◌≢◌ {A = ℕ} 2 19 = λ e. omega arith in
    let d20 : ◌≢◌ {A = ℕ} 2 20 = λ e. omega arith in
    let d21 : ◌≢◌ {A = ℕ} 2 21 = λ e. omega arith in
    rw (get_or-set_other, get_or-set_other, get_or-set_other, get_or-set_other, get_or-set_other) old

pub words_aligned : (n : ℕ) → n / 4 * 4 % 4 ≡ 0
words_aligned n = omega arith
