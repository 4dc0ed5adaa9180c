-- Bytes laid one after another make one text.
use Rattle.std.proofs.Common.{◌≡◌, ℕ, ◌+◌, ◌-◌, ◌≤◌, List, [], ◌++◌, length, take, drop, sym, ap, ◌∙◌, append_assoc, add-zero, add_assoc, zero-add, arith, length-append}
use native.Mathlib.Nat.{add-sub_cancel_left}
use borrow.Rule.Slice.PartMut.{put_mid}
use Rattle.std.proofs.lemmas.List.{take-append-drop, take_at, drop_at, drop-drop, length-take-le}
use Rattle.text.specs.Report.{over}
use Rattle.text.specs.Lay.{laid}

-- what a copy into a part of the buffer leaves
pub copied_laid : (at : ℕ) (bytes part buffer : List ℕ) → part ≡ bytes → put_mid at (at + length bytes - at) buffer part ≡ laid at bytes buffer
unfolding laid
copied_laid at bytes part buffer e = rw (e, add-sub_cancel_left, drop-drop)

-- two texts, the second right behind the first
pub laid_laid : (at : ℕ) (xs ys buffer : List ℕ) → at ≤ length buffer → laid (at + length xs) ys (laid at xs buffer) ≡ laid at (xs ++ ys) buffer
unfolding laid
laid_laid at xs ys buffer room =
    let front : length (take at buffer ++ xs) ≡ at + length xs = rw length-append (ap (λ n. n + length xs) (length-take-le at buffer room)) in
    let rest = drop (at + length xs) buffer in
    let whole : laid at xs buffer ≡ (take at buffer ++ xs) ++ rest = sym (append_assoc (take at buffer) xs rest) in
    let kept : drop (at + length xs + length ys) ((take at buffer ++ xs) ++ rest) ≡ drop (at + length (xs ++ ys)) buffer =
    sym (drop-drop (length ys) (at + length xs) ((take at buffer ++ xs) ++ rest)) ∙
    ap (drop (length ys)) (drop_at (take at buffer ++ xs) rest (at + length xs) front) ∙
    drop-drop (length ys) (at + length xs) buffer ∙
    ap (λ n. drop n buffer) (add_assoc at (length xs) (length ys) ∙ ap (λ n. at + n) (sym (length-append xs ys)))
    in
    ap (λ b. take (at + length xs) b ++ (ys ++ drop (at + length xs + length ys) b)) whole ∙
    ap (λ b. b ++ (ys ++ drop (at + length xs + length ys) ((take at buffer ++ xs) ++ rest))) (take_at (take at buffer ++ xs) rest (at + length xs) front) ∙
    ap (λ b. (take at buffer ++ xs) ++ (ys ++ b)) kept ∙
    simp append_assoc

-- a text at the start, and the next bytes right behind it
pub laid_over : (at : ℕ) (text bytes buffer : List ℕ) → at ≡ length text → laid at bytes (over text buffer) ≡ over (text ++ bytes) buffer
unfolding laid
laid_over at text bytes buffer e =
    let kept : drop (at + length bytes) (over text buffer) ≡ drop (length (text ++ bytes)) buffer =
    sym (drop-drop (length bytes) at (over text buffer)) ∙
    ap (drop (length bytes)) (drop_at text (drop (length text) buffer) at (sym e)) ∙
    drop-drop (length bytes) (length text) buffer ∙
    ap (λ n. drop n buffer) (sym (length-append text bytes))
    in
    ap (λ b. b ++ (bytes ++ drop (at + length bytes) (over text buffer))) (take_at text (drop (length text) buffer) at (sym e)) ∙
    ap (λ b. text ++ (bytes ++ b)) kept ∙
    sym (append_assoc text bytes (drop (length (text ++ bytes)) buffer))

pub laid_first : (bytes buffer : List ℕ) → laid 0 bytes buffer ≡ over bytes buffer
unfolding laid
laid_first bytes buffer = ap (λ n. bytes ++ drop n buffer) (zero-add (length bytes))

-- a line of three parts, one behind another from the start
pub record Line (a b d buffer after : List ℕ) (place : ℕ) : Type 0 where
  pub text : after ≡ over (a ++ (b ++ d)) buffer
  pub next : place ≡ length (a ++ (b ++ d))

pub three_laid : (a b d buffer first second third : List ℕ) (m n p : ℕ) → first ≡ laid 0 a buffer → m ≡ length a → second ≡ laid m b first → n ≡ m + length b → third ≡ laid n d second → p ≡ n + length d → Line a b d buffer third p
three_laid a b d buffer first second third m n p e₁ h₁ e₂ h₂ e₃ h₃ =
    let place : n ≡ length (a ++ b) = simp length-append (omega arith) in
    record {
      text =
          e₃ ∙
          ap (laid n d) (e₂ ∙ ap (laid m b) (e₁ ∙ laid_first a buffer) ∙ laid_over m a b buffer h₁) ∙
          laid_over n (a ++ b) d buffer place ∙
          ap (λ text. over text buffer) (append_assoc a b d);
      next = simp (length-append, length-append) (omega arith);
    }

pub laid_nothing : (at : ℕ) (buffer : List ℕ) → laid at [] buffer ≡ buffer
unfolding laid
laid_nothing at buffer = ap (λ n. take at buffer ++ drop n buffer) (add-zero at) ∙ take-append-drop at buffer
