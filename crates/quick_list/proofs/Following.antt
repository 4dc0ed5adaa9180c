-- The lines of a quick list follow the table below.
use Rattle.std.proofs.Common.{◌≡◌, ℕ, ◌^◌, ◌<◌, ◌≢◌, ◌+◌, ◌%◌, List, get_or, Some, None, Ok, sym, refl, ap, ap₂, ◌∙◌, arith}
use Rattle.std.proofs.lemmas.Bool.{eq-eqb, ne_eqb, cond-true, cond-false}
use Rattle.std.proofs.lemmas.Grind.{common_steps}
use Rattle.tlb.specs.declared.info.Info.{Info}
use Rattle.tlb.specs.declared.page.Page.{Page}
use Rattle.tlb.specs.declared.translation.Translation.{Translation}
use Rattle.tlb.specs.Table.{key_of, key, found, inserting, inserted, without, Rising}
use Rattle.tlb.proofs.Laws.{found_inserted, found_removed}
use Rattle.line_table.specs.declared.Lines.{Lines}
use Rattle.line_table.specs.Held.{Fewer, with_one, without_one, nothing}
use Rattle.line_table.proofs.Standing.{stands_whole}
use Rattle.quick_list.specs.declared.page_key.PageKey.{PageKey}
use Rattle.quick_list.specs.Lines.{same, whole, in_lines, kept, Agree, Holding}

abbrev page_of : ℕ → ℕ → Page
page_of s n = record { segment = s; number = n }

abbrev key_at : Page → PageKey
key_at page = record { 0 = page }

-- lines that hold nothing agree with every table
pub agree_empty : (ts : List Translation) (ls : Lines PageKey Info 16) → Fewer (in_lines ls) nothing → Agree ts ls
unfolding Agree
agree_empty ts ls none page info real has = let e = none (key_at page) info has in cc

-- a page with a number of 32 bits has a key of its own
own_key : (p q : Page) → p.number < 2 ^ 32 → q.number < 2 ^ 32 → p ≢ q → key_of p.segment p.number ≢ key_of q.segment q.number
own_key p q real-p real-q ne e = ne (ap₂ page_of (omega arith) (omega arith))

-- two tables have one info for each page but one
abbrev pub SameElsewhere : Page → List Translation → List Translation → Type 0
SameElsewhere at ts us = (page : Page) → page.number < 2 ^ 32 → page ≢ at → found us page.segment page.number ≡ found ts page.segment page.number

module _ (ts us : List Translation) (old new : Lines PageKey Info 16) (at : Page) (agree : Agree ts old) (others : SameElsewhere at ts us) where
  pub agree_put : (info : Info) → found us at.segment at.number ≡ Some info → Fewer (in_lines new) (with_one same (in_lines old) (key_at at) info) → Agree us new
  unfolding Agree
  agree_put info own fewer page other real has =
      let h = fewer (key_at page) other has in
      grind (arith, common_steps, h, own, others page real, agree page other real, whole (key_at page) (key_at at), λ (e : page ≡ at). ap key_at e)

  pub agree_removed : Fewer (in_lines new) (without_one same (in_lines old) (key_at at)) → Agree us new
  unfolding Agree
  agree_removed fewer page info real has =
      let h = fewer (key_at page) info has in
      grind (arith, common_steps, h, others page real, agree page info real, whole (key_at page) (key_at at), λ (e : page ≡ at). ap key_at e)

-- an insert and a remove leave every other page's info
pub others_inserted : (ts : List Translation) (n : ℕ) (t : Translation) → t.page.number < 2 ^ 32 → inserting ts n t ≡ Ok tt → SameElsewhere t.page ts (inserted ts n t)
others_inserted ts n t real ok page real-page other =
    found_inserted ts n t page.segment page.number ok ∙ cond-false _ _ _ (ne_eqb _ _ (λ e. own_key page t.page real-page real other (sym e)))

pub own_inserted : (ts : List Translation) (n : ℕ) (t : Translation) → inserting ts n t ≡ Ok tt → found (inserted ts n t) t.page.segment t.page.number ≡ Some t.info
own_inserted ts n t ok = found_inserted ts n t t.page.segment t.page.number ok ∙ cond-true _ _ _ (eq-eqb (key t) (key t) refl)

pub others_removed : (ts : List Translation) (at : Page) → at.number < 2 ^ 32 → Rising ts → SameElsewhere at ts (without at.segment at.number ts)
others_removed ts at real rising page real-page other =
    found_removed ts at.segment at.number page.segment page.number rising ∙ cond-false _ _ _ (ne_eqb _ _ (λ e. own_key page at real-page real other (sym e)))

-- what the lines have for a page stands in one of them
pub holding : (ls : Lines PageKey Info 16) (page : Page) (info : Info) → kept ls page ≡ Some info → Holding ls page info
holding ls page info has =
    record { line = (page.segment + page.number) % 16; within = omega arith; there = stands_whole same whole (get_or ls _ None) (key_at page) info has }
