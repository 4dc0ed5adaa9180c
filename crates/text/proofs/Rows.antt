-- What holds of the buffer while the rows of the registers are written.
use Rattle.std.proofs.Common.{◌≡◌, ℕ, zero, suc, ◌+◌, ◌-◌, ◌*◌, ◌≤◌, cond, List, [], ◌++◌, length, get_or, sym, ap, ◌∙◌, append-nil, add-zero, add_assoc, arith, length-append, eq-eqb, ne_eqb}
use Rattle.text.specs.Report.{row_text, row_unless_zero, rows_to, over}
use Rattle.text.specs.Lay.{laid}
use Rattle.text.proofs.Laid.{laid_laid, laid_over, laid_nothing}

-- the rows of the registers below one stand in the buffer, from the place behind the head to that behind them
pub record Listed (head : ℕ) (general entry buffer : List ℕ) (number at : ℕ) : Type 0 where
  pub text : buffer ≡ laid head (rows_to (number - 1) general) entry
  pub place : at ≡ head + length (rows_to (number - 1) general)
  pub room : at ≤ head + 14 * (number - 1)

-- a register's row, or nothing, behind those of the registers below it
rows_more : (general row : List ℕ) (n : ℕ) → 1 ≤ n → row_unless_zero n (get_or general n 0) ≡ row → rows_to (n - 1) general ++ row ≡ rows_to (n + 1 - 1) general
rows_more general row zero some is = absurd (omega arith)
rows_more general row (suc n) some is =
    let e : suc n ≡ suc n + 1 - 1 = omega arith in
    let f : suc n - 1 ≡ n = omega arith in
    ap (λ m. rows_to m general ++ row) f ∙ ap (λ r. rows_to n general ++ r) (sym is) ∙ ap (λ m. rows_to m general) e

no_row : (value n : ℕ) → value ≡ 0 → row_unless_zero n value ≡ []
no_row value n is = ap (λ b. cond b [] (row_text n value)) (eq-eqb value 0 is)

one_row : (value n : ℕ) → (value ≡ 0 → ⊥) → row_unless_zero n value ≡ row_text n value
one_row value n isnt = ap (λ b. cond b [] (row_text n value)) (ne_eqb value 0 isnt)

pub listed_first : (head : ℕ) (general entry : List ℕ) → Listed head general entry entry 1 head
listed_first head general entry = record { text = sym (laid_nothing head entry); place = sym (add-zero head); room = omega arith }

pub listed_none : (head : ℕ) (general entry buffer after : List ℕ) (n at next : ℕ) → 1 ≤ n → get_or general n 0 ≡ 0 → after ≡ buffer → next ≡ at → Listed head general entry buffer n at → Listed head general entry after (n + 1) next
listed_none head general entry buffer after n at next some is same still l =
    let more = sym (append-nil (rows_to (n - 1) general)) ∙ rows_more general [] n some (no_row _ n is) in
    record {
      text = same ∙ l.text ∙ ap (λ rows. laid head rows entry) more;
      place = still ∙ l.place ∙ ap (λ rows. head + length rows) more;
      room = omega (arith, l.room);
    }

pub listed_row : (head : ℕ) (general entry buffer after row : List ℕ) (n at next : ℕ) → 1 ≤ n → head ≤ length entry → (get_or general n 0 ≡ 0 → ⊥) → row ≡ row_text n (get_or general n 0) → after ≡ laid at row buffer → next ≡ at + length row → Listed head general entry buffer n at → Listed head general entry after (n + 1) next
listed_row head general entry buffer after row n at next some inside isnt is laid-is next-is l =
    let rows = rows_to (n - 1) general in
    let more : rows ++ row ≡ rows_to (n + 1 - 1) general = rows_more general row n some (one_row _ n isnt ∙ sym is) in
    let long : length row ≡ 14 = ap length is in
    record {
      text = laid-is ∙ ap (laid at row) l.text ∙ ap (λ m. laid m row (laid head rows entry)) l.place ∙ laid_laid head rows row entry inside ∙ ap (λ text. laid head text entry) more;
      place = next-is ∙ ap (λ m. m + length row) l.place ∙ add_assoc head (length rows) (length row) ∙ ap (λ m. head + m) (sym (length-append rows row)) ∙ ap (λ text. head + length text) more;
      room = omega (arith, l.room, long, next-is);
    }

-- with all rows behind the head the whole text stands at the buffer's start
pub listed_all : (start general before entry buffer : List ℕ) (head n at : ℕ) → n ≡ 16 → head ≡ length start → entry ≡ over start before → Listed head general entry buffer n at → (at ≡ length (start ++ rows_to 15 general)) × (buffer ≡ over (start ++ rows_to 15 general) before)
listed_all start general before entry buffer head n at end place stands l =
    let all : rows_to (n - 1) general ≡ rows_to 15 general = ap (λ m. rows_to (m - 1) general) end in (
      l.place ∙ ap (λ m. m + length (rows_to (n - 1) general)) place ∙ sym (length-append start (rows_to (n - 1) general)) ∙ ap (λ rows. length (start ++ rows)) all,
      l.text ∙ ap (laid head (rows_to (n - 1) general)) stands ∙ laid_over head start (rows_to (n - 1) general) before place ∙ ap (λ rows. over (start ++ rows) before) all,
    )
