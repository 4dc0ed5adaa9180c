-- What the lines of a quick list hold.
use Rattle.std.specs.Prelude.{◌≡◌, ℕ, ◌+◌, ◌^◌, ◌<◌, ◌↔◌, Bool, true, ◌&&◌, List, Some, None, Option, ◌==◌, slice_index_or}
use Rattle.std.specs.Cmp.Rules.{comparing}
use Rattle.std.proofs.Common.{rules}
use Rattle.tlb.specs.declared.info.Info.{Info}
use Rattle.tlb.specs.declared.page.Page.{Page}
use Rattle.tlb.specs.declared.table.Tlb
use Rattle.tlb.specs.declared.translation.Translation.{Translation}
use Rattle.tlb.specs.Table.{found}
use Rattle.line_table.specs.Held.{Held}
use Rattle.line_table.specs.Lines.{held}
use Rattle.line_table.specs.declared.Lines.{Lines}
use Rattle.quick_list.specs.declared.page_key.PageKey.{PageKey}
use Rattle.quick_list.specs.declared.QuickList.{QuickList}

-- segment and number are both compared whole
abbrev pub same : PageKey → PageKey → Bool
same a b = (a.0.segment == b.0.segment) && (a.0.number == b.0.number)

-- a page's segment and its number, added
abbrev pub folded : PageKey → ℕ
folded k = k.0.segment + k.0.number

-- the same keys are one
pub whole : (a b : PageKey) → (same a b ≡ true) ↔ (a ≡ b)
whole a b = search (comparing, rules)

abbrev pub in_lines : Lines PageKey Info 16 → Held PageKey Info
in_lines = held same folded 16

-- the info that the lines have for a page
abbrev pub kept : Lines PageKey Info 16 → Held Page Info
kept ls page = in_lines ls (record { 0 = page })

-- the lines have nothing that the table does not have; a page's number has 32 bits
unfoldable pub Agree : List Translation → Lines PageKey Info 16 → Type 0
Agree ts ls = (page : Page) (info : Info) → page.number < 2 ^ 32 → kept ls page ≡ Some info → found ts page.segment page.number ≡ Some info

-- the table agrees with itself, and the lines with the table
pub record Agreeing {T : Type 0} (tlb : Tlb.Ghosts T) (q : QuickList T) : Type 0 where
  pub table : tlb.sound q.table
  pub lines : Agree (tlb.translations q.table) q.lines

-- one of the 16 lines holds a page's info
pub record Holding (ls : Lines PageKey Info 16) (page : Page) (info : Info) : Type 0 where
  pub line : ℕ
  pub within : line < 16
  pub there : slice_index_or ls line None ≡ Some (record { key = record { 0 = page }; value = info })

-- what a find answered stands in a line
abbrev pub Lined : Lines PageKey Info 16 → Page → Option Info → Type 0
Lined ls page None = Unit {0}
Lined ls page (Some info) = Holding ls page info
