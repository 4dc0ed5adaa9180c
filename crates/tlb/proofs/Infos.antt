-- Which words are info words, and that an info is its word.
use Rattle.std.proofs.Common.{◌≡◌, ℕ, zero, suc, Some, None, refl, ap, subst, arith}
use base.Stored.{Coded-set, coded_ℕ}
use Rattle.tlb.specs.declared.info.Info.{Info}
use Rattle.tlb.specs.Word.{unnamed}
use Rattle.tlb.specs.Info.{info_where, info_of}

-- infos are equal where their words are
pub same_info : (i j : Info) → i.word ≡ j.word → i ≡ j
same_info i j e =
    subst (λ (w : ℕ). (h : unnamed w ≡ 0) → i ≡ record { word = w; named = h }) e
    (λ h. ap (λ (k : unnamed i.word ≡ 0). record { word = i.word; named = k }) (Coded-set coded_ℕ _ _ i.named h))
    j.named

where_named : (word n : ℕ) (e : unnamed word ≡ n) (h : unnamed word ≡ 0) → Some (record { word = word; named = h }) ≡ info_where word n e
where_named word zero e h = ap Some (same_info (record { word = word; named = h }) (record { word = word; named = e }) refl)
where_named word (suc n) e h = absurd (omega arith)

where_unnamed : (word n : ℕ) (e : unnamed word ≡ n) → (unnamed word ≡ 0 → ⊥) → None ≡ info_where word n e
where_unnamed word zero e set = absurd (set e)
where_unnamed word (suc n) e set = refl

pub info_named : (word : ℕ) (h : unnamed word ≡ 0) → Some (record { word = word; named = h }) ≡ info_of word
unfolding info_of
info_named word h = where_named word (unnamed word) refl h

pub info_unnamed : (word : ℕ) → (unnamed word ≡ 0 → ⊥) → None ≡ info_of word
unfolding info_of
info_unnamed word set = where_unnamed word (unnamed word) refl set
