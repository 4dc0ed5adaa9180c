-- What a translation table means: its translations in rising order, at most one for each segment and page.
use Rattle.std.specs.Prelude.{ℕ, ◌+◌, ◌*◌, ◌^◌, ◌<◌, ◌≤◌, Bool, cond, ◌||◌, List, [], ◌∷◌, length, is_some, Some, None, Ok, Err, Option, Result, ◌==◌, nat_lt}
use Rattle.tlb.specs.declared.info.Info.{Info}
use Rattle.tlb.specs.declared.translation.Translation.{Translation}
use Rattle.tlb.specs.declared.table.TableFault.{TableFault}
use Rattle.tlb.specs.declared.table.TableFault.TheVariants.{Full}

-- a segment and a page as one number
abbrev pub key_of : ℕ → ℕ → ℕ
key_of segment page = segment * 2 ^ 32 + page

abbrev pub key : Translation → ℕ
key t = key_of t.page.segment t.page.number

abbrev pub lookup : List Translation → ℕ → Option Info
lookup [] k = None
lookup (x ∷ xs) k = cond (key x == k) (Some x.info) (lookup xs k)

-- a translation goes to its place, and replaces that of its key
abbrev pub put : Translation → List Translation → List Translation
put t [] = t ∷ []
put t (x ∷ xs) = cond (nat_lt (key t) (key x)) (t ∷ x ∷ xs) (cond (key t == key x) (t ∷ xs) (x ∷ put t xs))

abbrev pub leave_out : ℕ → List Translation → List Translation
leave_out k [] = []
leave_out k (x ∷ xs) = cond (key x == k) xs (x ∷ leave_out k xs)

-- the key has a translation, or n slots leave one free
abbrev pub room : List Translation → ℕ → ℕ → Bool
room ts n k = is_some (lookup ts k) || nat_lt (length ts) n

unfoldable pub found : List Translation → ℕ → ℕ → Option Info
found ts segment page = lookup ts (key_of segment page)

unfoldable pub inserting : List Translation → ℕ → Translation → Result (Unit {0}) TableFault
inserting ts n t = cond (room ts n (key t)) (Ok tt) (Err Full)

unfoldable pub inserted : List Translation → ℕ → Translation → List Translation
inserted ts n t = cond (room ts n (key t)) (put t ts) ts

unfoldable pub without : ℕ → ℕ → List Translation → List Translation
without segment page ts = leave_out (key_of segment page) ts

-- strictly rising from above m on
abbrev pub Above : ℕ → List Translation → Type 0
Above m [] = Unit {0}
Above m (x ∷ xs) = (m < key x) × Above (key x) xs

abbrev pub Rising : List Translation → Type 0
Rising [] = Unit {0}
Rising (x ∷ xs) = Above (key x) xs

pub record Lawful (ts : List Translation) (slots : ℕ) : Type 0 where
  pub rising : Rising ts
  pub fit : length ts ≤ slots
  pub few : slots ≤ 1024
