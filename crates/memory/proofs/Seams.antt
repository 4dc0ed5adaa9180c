-- Accesses to two memories as one: a page lies on one side of the seam, and so does every access.
use Rattle.std.proofs.Common.{◌≡◌, ℕ, zero, suc, ◌+◌, ◌-◌, ◌*◌, ◌/◌, ◌%◌, ◌<◌, ◌≤◌, Bool, true, false, cond, List, [], ◌++◌, length, get_or, set, Some, None, Ok, Err, Option, Result, sym, refl, ap, ◌∙◌, ⊎_elim, arith, length-append}
use Rattle.std.proofs.lemmas.List.{get_or_append_left, get_or-append_right, set-append_left, set-append_right}
use Rattle.std.proofs.lemmas.Bool.{cases_Bool, and_left, cond-true, cond-false}
use Rattle.std.proofs.lemmas.Bool.Decides.{nat_tests}
use Rattle.memory.specs.declared.memory.MemoryFault.{MemoryFault}
use Rattle.memory.specs.declared.memory.MemoryFault.TheVariants.{Outside}
use Rattle.memory.specs.Bytes.{known_width, inside, number_at, stored_at}
use Rattle.memory.specs.Pages.{Paged, marked_at}
use Rattle.memory.specs.Access.{reading, writing, written}
use Rattle.memory.specs.Joining.{joins, seam_of, joined_bytes, joined_marks}
use Rattle.memory.proofs.Widths.{each_width, inside_parts}
use Rattle.memory.proofs.Words.{length_stored_at, number_from_bytes}

-- ---- numbers in two lists, one after the other

module _ (bs cs : List ℕ) where
  number_below : (a w : ℕ) → a + w ≤ length bs → number_at (bs ++ cs) a w ≡ number_at bs a w
  number_below a w h = number_from_bytes (bs ++ cs) bs a w (λ i l. get_or_append_left bs cs 0 (a + i) (omega arith))

  stored_below : (a w v : ℕ) → a + w ≤ length bs → stored_at (bs ++ cs) a w v ≡ stored_at bs a w v ++ cs
  unfolding stored_at
  stored_below a zero v h = refl
  stored_below a (suc n) v h =
      let front = stored_at bs a n (v / 256) in
      let long = length_stored_at bs a n (v / 256) in
      ap (λ xs. set xs (a + n) (v % 256)) (stored_below a n (v / 256) (omega arith)) ∙ set-append_left front cs (a + n) (v % 256) (omega arith)

  module _ (s a : ℕ) (split : length bs ≡ s) (past : s ≤ a) where
    there : (n : ℕ) → a + n - s ≡ a - s + n
    there n = omega arith

    number_above : (w : ℕ) → number_at (bs ++ cs) a w ≡ number_at cs (a - s) w
    unfolding number_at
    number_above zero = refl
    number_above (suc n) =
        let front = number_above n in
        let last : get_or (bs ++ cs) (a + n) 0 ≡ get_or cs (a - s + n) 0 = get_or-append_right bs cs s (a + n) 0 split (omega arith) ∙ ap (λ i. get_or cs i 0) (there n) in
        cc

    stored_above : (w v : ℕ) → stored_at (bs ++ cs) a w v ≡ bs ++ stored_at cs (a - s) w v
    unfolding stored_at
    stored_above zero v = refl
    stored_above (suc n) v =
        ap (λ xs. set xs (a + n) (v % 256)) (stored_above n (v / 256)) ∙
        set-append_right bs (stored_at cs (a - s) n (v / 256)) s (a + n) (v % 256) split (omega arith) ∙
        ap (λ i. bs ++ set (stored_at cs (a - s) n (v / 256)) i (v % 256)) (there n)

-- ---- an access lies on one side of a page's end

unknown_outside : (w n a : ℕ) → known_width w ≡ false → inside w n a ≡ false
unknown_outside w n a e = and_left _ _ e

-- no access of another width lies inside anything
by_width : (w m n a b : ℕ) → (known_width w ≡ true → inside w m a ≡ inside w n b) → inside w m a ≡ inside w n b
by_width w m n a b known = ⊎_elim known (λ e. unknown_outside w m a e ∙ sym (unknown_outside w n b e)) (cases_Bool (known_width w))

inside_below : (w n m a p : ℕ) → n ≡ 16384 * p → a < n → inside w n a ≡ inside w (n + m) a
inside_below w n m a p e h =
    by_width w n (n + m) a a
    (each_width (λ k. inside k n a ≡ inside k (n + m) a) (grind (arith, nat_tests)) (grind (arith, nat_tests)) (grind (arith, nat_tests)) w)

inside_above : (w n m a p : ℕ) → n ≡ 16384 * p → n ≤ a → inside w m (a - n) ≡ inside w (n + m) a
inside_above w n m a p e h =
    by_width w m (n + m) (a - n) a
    (each_width (λ k. inside k m (a - n) ≡ inside k (n + m) a) (grind (arith, nat_tests)) (grind (arith, nat_tests)) (grind (arith, nat_tests)) w)

nothing_inside : (w a : ℕ) → inside w 0 a ≡ false
nothing_inside w a =
    ⊎_elim (each_width (λ k. inside k 0 a ≡ false) (grind (arith, nat_tests)) (grind (arith, nat_tests)) (grind (arith, nat_tests)) w) (unknown_outside w 0 a)
    (cases_Bool (known_width w))

-- ---- what a seam tells

pub record Seam (m n s : ℕ) : Type 0 where
  pub joined : joins m n ≡ true
  pub here : s ≡ m

seam_by : (b : Bool) (m n s : ℕ) → joins m n ≡ b → Some s ≡ cond b (Some m) None → Seam m n s
seam_by true m n s is e = record { joined = is; here = cc }
seam_by false m n s is e = let z : ◌≡◌ {A = ℕ} 0 1 = cc in absurd (omega arith)

pub at_seam : (m n s : ℕ) → Some s ≡ seam_of m n → Seam m n s
at_seam m n s e = seam_by (joins m n) m n s refl e

-- a fault is the same whatever the answer would have been
pub told_again : (f g : MemoryFault) → ◌≡◌ {A = Result ℕ MemoryFault} (Err f) (Err g) → ◌≡◌ {A = Result (Unit {0}) MemoryFault} (Err f) (Err g)
told_again f g e = let same : f ≡ g = cc in ap Err same

seamless_by : (b : Bool) (m : ℕ) → ◌≡◌ {A = Option ℕ} None (cond b (Some m) None) → b ≡ false
seamless_by true m e = let z : ◌≡◌ {A = ℕ} 0 1 = cc in absurd (omega arith)
seamless_by false m e = refl

pub seamless : (m n : ℕ) → None ≡ seam_of m n → joins m n ≡ false
seamless m n e = seamless_by (joins m n) m e

-- ---- two memories that make none

module _ (bs : List ℕ) (ms : List Bool) (cs : List ℕ) (ns : List Bool) (apart : joins (length ms) (length ns) ≡ false) (w a : ℕ) where
  no_bytes : joined_bytes bs ms cs ns ≡ []
  no_bytes = cond-false _ _ _ apart

  pub apart_reading : Err Outside ≡ reading (joined_bytes bs ms cs ns) w a
  unfolding reading
  apart_reading = rw (no_bytes, nothing_inside w a)

  pub apart_writing : (marks : List Bool) → Err Outside ≡ writing (joined_bytes bs ms cs ns) marks w a
  unfolding writing
  apart_writing marks = rw (no_bytes, nothing_inside w a)

  pub apart_written : (marks : List Bool) (v : ℕ) → joined_bytes bs ms cs ns ≡ written (joined_bytes bs ms cs ns) marks w a v
  unfolding written
  apart_written marks v = rw (no_bytes, nothing_inside w a)

-- ---- two memories that make one

same_test : {X : Type 0} (b c : Bool) (x y z : X) → b ≡ c → (b ≡ true → x ≡ y) → cond b x z ≡ cond c y z
same_test true c x y z e f = rw (← e) (f refl)
same_test false c x y z e f = rw (← e)

-- a write to a part is a write to the whole
carried : (f : List ℕ → List ℕ) (b m c n : Bool) (xs us ys zs : List ℕ) → b ≡ c → m ≡ n → f xs ≡ ys → (b ≡ true → f us ≡ zs) → f (cond b (cond m xs us) xs) ≡ cond c (cond n ys zs) ys
carried f true true c n xs us ys zs e d g h = rw (← e, ← d) g
carried f true false c n xs us ys zs e d g h = rw (← e, ← d) (h refl)
carried f false m c n xs us ys zs e d g h = rw (← e) g

module _ (ms ns : List Bool) (s : ℕ) (seam : Seam (length ms) (length ns) s) where
  marks_are : joined_marks ms ns ≡ ms ++ ns
  marks_are = cond-true _ _ _ seam.joined

  pub joined_length : s + length ns ≡ length (joined_marks ms ns)
  joined_length = rw seam.here (sym (ap length marks_are ∙ length-append ms ns))

  pub mark_below : (page : ℕ) → page < s → get_or ms page false ≡ get_or (joined_marks ms ns) page false
  mark_below page h = rw marks_are (sym (get_or_append_left ms ns false page (omega (arith, seam.here))))

  pub mark_above : (page : ℕ) → s ≤ page → get_or ns (page - s) false ≡ get_or (joined_marks ms ns) page false
  mark_above page h = rw marks_are (sym (get_or-append_right ms ns s page false (sym seam.here) h))

  module _ (bs cs : List ℕ) (p : Paged bs ms) (w a : ℕ) where
    bytes_are : joined_bytes bs ms cs ns ≡ bs ++ cs
    bytes_are = cond-true _ _ _ seam.joined

    split : length bs ≡ s * 16384
    split = omega (arith, p.sized, seam.here)

    ends : inside w (length bs) a ≡ true → a + w ≤ length bs
    ends e = (inside_parts w (length bs) a e).ends

    -- in the lower part
    module _ (low : a < s * 16384) where
      in_below : inside w (length bs) a ≡ inside w (length (bs ++ cs)) a
      in_below = rw length-append (inside_below w (length bs) (length cs) a (length ms) p.sized (omega (arith, split)))

      marked_below : marked_at ms a ≡ marked_at (ms ++ ns) a
      marked_below = sym (get_or_append_left ms ns false (a / 16384) (omega (arith, seam.here)))

      pub reading_below : reading bs w a ≡ reading (joined_bytes bs ms cs ns) w a
      unfolding reading
      reading_below = rw bytes_are (same_test _ _ _ _ _ in_below (λ e. ap Ok (sym (number_below bs cs a w (ends e)))))

      pub writing_below : writing bs ms w a ≡ writing (joined_bytes bs ms cs ns) (joined_marks ms ns) w a
      unfolding writing
      writing_below = rw (bytes_are, marks_are, in_below, marked_below)

      pub written_below : (v : ℕ) (us : List ℕ) (ks : List Bool) → us ≡ written bs ms w a v → ks ≡ ms → joined_bytes us ks cs ns ≡ written (joined_bytes bs ms cs ns) (joined_marks ms ns) w a v
      unfolding written
      written_below v us ks e d =
          rw (d, seam.joined, e)
          (carried (λ xs. xs ++ cs) (inside w (length bs) a) (marked_at ms a) _ _ bs (stored_at bs a w v) (bs ++ cs) _ in_below marked_below refl
          (λ e. sym (stored_below bs cs a w v (ends e))))

    -- in the upper part
    module _ (high : s * 16384 ≤ a) where
      abbrev b : ℕ
      b = a - s * 16384

      in_above : inside w (length cs) b ≡ inside w (length (bs ++ cs)) a
      in_above = rw (length-append, split) (inside_above w (s * 16384) (length cs) a s (omega arith) high)

      marked_above : marked_at ns b ≡ marked_at (ms ++ ns) a
      marked_above =
          let page : a / 16384 - s ≡ b / 16384 = omega arith in
          sym (get_or-append_right ms ns s (a / 16384) false (sym seam.here) (omega arith) ∙ ap (λ i. get_or ns i false) page)

      pub reading_above : reading cs w b ≡ reading (joined_bytes bs ms cs ns) w a
      unfolding reading
      reading_above = rw bytes_are (same_test _ _ _ _ _ in_above (λ _. ap Ok (sym (number_above bs cs (s * 16384) a split high w))))

      pub writing_above : writing cs ns w b ≡ writing (joined_bytes bs ms cs ns) (joined_marks ms ns) w a
      unfolding writing
      writing_above = rw (bytes_are, marks_are, in_above, marked_above)

      pub written_above : (v : ℕ) (us : List ℕ) (ks : List Bool) → us ≡ written cs ns w b v → ks ≡ ns → joined_bytes bs ms us ks ≡ written (joined_bytes bs ms cs ns) (joined_marks ms ns) w a v
      unfolding written
      written_above v us ks e d =
          rw (d, seam.joined, e)
          (carried (λ xs. bs ++ xs) (inside w (length cs) b) (marked_at ns b) _ _ cs (stored_at cs b w v) (bs ++ cs) _ in_above marked_above refl
          (λ _. sym (stored_above bs cs (s * 16384) a split high w v)))
