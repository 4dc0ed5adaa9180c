-- The fields of an info word, and which words are one.
use Rattle.std.specs.Prelude.{◌≡◌, ℕ, zero, suc, ◌/◌, ◌%◌, ◌^◌, Bool, cond, Some, None, Option, ◌==◌, refl}
use Rattle.tlb.specs.declared.info.Info.{Info}
use Rattle.tlb.specs.declared.page_type.PageType.{PageType}
use Rattle.tlb.specs.declared.page_type.PageType.TheVariants.{ReadOnly, ReadWrite, Execute, Gateway}
use Rattle.tlb.specs.Word.{unnamed}

abbrev pub checked : Info → Bool
checked i = i.word / 2 ^ 29 % 2 == 1

abbrev pub type_of : ℕ → PageType
type_of n = cond (n == 0) ReadOnly (cond (n == 1) ReadWrite (cond (n == 2) Execute Gateway))

abbrev pub kind : Info → PageType
kind i = type_of (i.word / 2 ^ 27 % 4)

abbrev pub pl1 : Info → Bool
pl1 i = i.word / 2 ^ 26 % 2 == 1

abbrev pub pl2 : Info → Bool
pl2 i = i.word / 2 ^ 25 % 2 == 1

-- the number of the physical page
abbrev pub physical : Info → ℕ
physical i = i.word % 2 ^ 18

-- a word is an info word where its unnamed bits spell n, and n is zero
abbrev pub info_where : (word n : ℕ) → unnamed word ≡ n → Option Info
info_where word zero e = Some (record { word = word; named = e })
info_where word (suc n) e = None

unfoldable pub info_of : ℕ → Option Info
info_of word = info_where word (unnamed word) refl
