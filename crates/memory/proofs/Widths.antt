-- The numbers of one, two and four bytes written out, as the code has them.
use Rattle.std.proofs.Common.{◌≡◌, ℕ, zero, suc, ◌+◌, ◌-◌, ◌*◌, ◌/◌, ◌%◌, ◌<◌, ◌≤◌, true, ◌&&◌, ◌||◌, eqb, leb, ◌⊎◌, List, [], ◌∷◌, ◌++◌, length, get_or, take, drop, set, sym, refl, ap, ◌∙◌, subst, inl, inr, ⊎_elim, add-zero, arith}
use native.Mathlib.Nat.{add-sub_cancel_left, div-div-eq-div-mul}
use native.Mathlib.Numerals.{unary_clauses}
use borrow.Rule.Slice.PartMut.{put_mid}
use Rattle.std.proofs.lemmas.List.{drop-drop}
use Rattle.std.proofs.lemmas.Bool.{leb-true, eqb-true, and_parts, or_cases}
use Rattle.memory.specs.Bytes.{known_width, inside, number_at, stored_at}

pub number_one : (bs : List ℕ) (a : ℕ) → number_at bs a 1 ≡ get_or bs a 0
unfolding number_at
number_one bs a = rw add-zero (omega arith)

pub number_two : (bs : List ℕ) (a : ℕ) → number_at bs a 2 ≡ get_or bs a 0 * 256 + get_or bs (a + 1) 0
unfolding number_at
number_two bs a = rw add-zero (omega arith)

pub number_four : (bs : List ℕ) (a : ℕ) → number_at bs a 4 ≡ get_or bs a 0 * 16777216 + get_or bs (a + 1) 0 * 65536 + get_or bs (a + 2) 0 * 256 + get_or bs (a + 3) 0
unfolding number_at
number_four bs a = rw add-zero (omega arith)

pub stored_one : (bs : List ℕ) (a v : ℕ) → stored_at bs a 1 v ≡ set bs a (v % 256)
unfolding stored_at
stored_one bs a v = rw add-zero

pub stored_two : (bs : List ℕ) (a v : ℕ) → stored_at bs a 2 v ≡ set (set bs a (v / 256 % 256)) (a + 1) (v % 256)
unfolding stored_at
stored_two bs a v = rw add-zero

pub stored_four : (bs : List ℕ) (a v : ℕ) → stored_at bs a 4 v ≡ set (set (set (set bs a (v / 16777216 % 256)) (a + 1) (v / 65536 % 256)) (a + 2) (v / 256 % 256)) (a + 3) (v % 256)
unfolding stored_at
stored_four bs a v = simp (add-zero, div-div-eq-div-mul)

-- so many bytes copied to a place, as one write for each
two_put : (a x y : ℕ) (bs : List ℕ) → a + 2 ≤ length bs → take a bs ++ (x ∷ y ∷ drop (a + 2) bs) ≡ set (set bs a x) (a + 1) y
two_put zero x y [] h = absurd (omega arith)
two_put zero x y (b ∷ []) h = absurd (omega arith)
two_put zero x y (b ∷ (c ∷ bs)) h = refl
two_put (suc a) x y [] h = absurd (omega arith)
two_put (suc a) x y (b ∷ bs) h = let h = ap (λ cs. b ∷ cs) (two_put a x y bs (omega arith)) in let k = simp unary_clauses at h in simp unary_clauses k

four_put : (a x y z w : ℕ) (bs : List ℕ) → a + 4 ≤ length bs → take a bs ++ (x ∷ y ∷ z ∷ w ∷ drop (a + 4) bs) ≡ set (set (set (set bs a x) (a + 1) y) (a + 2) z) (a + 3) w
four_put zero x y z w [] h = absurd (omega arith)
four_put zero x y z w (b ∷ []) h = absurd (omega arith)
four_put zero x y z w (b ∷ (c ∷ [])) h = absurd (omega arith)
four_put zero x y z w (b ∷ (c ∷ (d ∷ []))) h = absurd (omega arith)
four_put zero x y z w (b ∷ (c ∷ (d ∷ (e ∷ bs)))) h = refl
four_put (suc a) x y z w [] h = absurd (omega arith)
four_put (suc a) x y z w (b ∷ bs) h = let h = ap (λ cs. b ∷ cs) (four_put a x y z w bs (omega arith)) in let k = simp unary_clauses at h in simp unary_clauses k

pub copied_two : (bs part : List ℕ) (a v : ℕ) → a + 2 ≤ length bs → part ≡ (v / 256 % 256) ∷ ((v % 256) ∷ []) → put_mid a (a + 2 - a) bs part ≡ stored_at bs a 2 v
copied_two bs part a v h e = rw (e, add-sub_cancel_left, drop-drop) (two_put a _ _ bs h ∙ sym (stored_two bs a v))

pub copied_four : (bs part : List ℕ) (a v : ℕ) → a + 4 ≤ length bs → part ≡ (v / 16777216 % 256) ∷ ((v / 65536 % 256) ∷ ((v / 256 % 256) ∷ ((v % 256) ∷ []))) → put_mid a (a + 4 - a) bs part ≡ stored_at bs a 4 v
copied_four bs part a v h e = rw (e, add-sub_cancel_left, drop-drop) (four_put a _ _ _ _ bs h ∙ sym (stored_four bs a v))

pub width_cases : (w : ℕ) → known_width w ≡ true → (w ≡ 1) ⊎ ((w ≡ 2) ⊎ (w ≡ 4))
width_cases w ok =
    ⊎_elim (λ e. inl (eqb-true w 1 e))
    (λ r. inr (⊎_elim (λ e. inl (eqb-true w 2 e)) (λ e. inr (eqb-true w 4 e)) (or_cases (eqb w 2) (eqb w 4) r)))
    (or_cases (eqb w 1) (eqb w 2 || eqb w 4) ok)

pub each_width : (P : ℕ → Type 0) → P 1 → P 2 → P 4 → (w : ℕ) → known_width w ≡ true → P w
each_width P one two four w ok =
    ⊎_elim (λ e. subst P (sym e) one) (⊎_elim (λ e. subst P (sym e) two) (λ e. subst P (sym e) four)) (width_cases w ok)

pub width_positive : (w : ℕ) → known_width w ≡ true → 0 < w
width_positive w ok = each_width (λ k. 0 < k) (omega arith) (omega arith) (omega arith) w ok

-- what an access that lies inside is
pub record Inside (w n a : ℕ) : Type 0 where
  pub known : known_width w ≡ true
  pub even : a % w ≡ 0
  pub ends : a + w ≤ n

pub inside_parts : (w n a : ℕ) → inside w n a ≡ true → Inside w n a
inside_parts w n a ok =
    let p = and_parts (known_width w) (eqb (a % w) 0 && leb (a + w) n) ok in
    let q = and_parts (eqb (a % w) 0) (leb (a + w) n) p.1 in
    record { known = p.0; even = eqb-true (a % w) 0 q.0; ends = leb-true (a + w) n q.1 }
