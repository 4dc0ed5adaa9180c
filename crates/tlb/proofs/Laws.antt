-- What looking up, putting in and leaving out do to translations, and to the slots that hold them.
use Rattle.std.proofs.Common.{◌≡◌, ℕ, zero, suc, ◌<◌, ◌≤◌, Bool, true, false, cond, eqb, List, [], ◌∷◌, length, get_or, set, replicate, is_some, Some, None, Ok, Err, Option, Result, sym, refl, ap, ◌∙◌, subst, ◌⊎◌, ⊎_elim, arith}
use Rattle.std.proofs.lemmas.List.{set-set, set-get_or, get_or-set_same, get_or_default, length-set, length-replicate}
use Rattle.std.proofs.lemmas.Bool.{eqb-true, eqb-false, eq-eqb, ne_eqb, both_ways, cases_Bool, cond-true, lt-ltb, le-ltb, true≢false}
use Rattle.std.proofs.lemmas.Bool.Decides.{nat_tests}
use Rattle.tlb.specs.declared.table.TableFault.{TableFault}
use Rattle.tlb.specs.declared.table.TableFault.TheVariants.{Full}
use Rattle.tlb.specs.declared.info.Info.{Info}
use Rattle.tlb.specs.declared.translation.Translation.{Translation}
use Rattle.tlb.specs.Sizes.{fitting}
use Rattle.tlb.specs.Table.{key_of, key, lookup, put, leave_out, room, found, inserting, inserted, without, Above, Rising}
use Rattle.tlb.specs.Slots.{usable, freed, holds, info_in, translations_of, Missing, Distinct, NoneHolds, HoldsAt, NoneFree, FreeAt}
use Rattle.tlb.specs.Order.{put_adds_one_at_most, no_more_than_slots}

-- translations in order

pub lookup_put : (t : Translation) (ts : List Translation) (k : ℕ) → lookup (put t ts) k ≡ cond (eqb (key t) k) (Some t.info) (lookup ts k)
lookup_put t [] k = refl
lookup_put t (x ∷ xs) k = let ih = lookup_put t xs k in grind (arith, nat_tests)

pub put_adds_one : (t : Translation) (ts : List Translation) → lookup ts (key t) ≡ None → length (put t ts) ≡ suc (length ts)
put_adds_one t [] h = refl
put_adds_one t (x ∷ xs) h = let ih = put_adds_one t xs in grind (arith, nat_tests)

pub puts_commute : (t u : Translation) (ts : List Translation) → (key u ≡ key t → ⊥) → put t (put u ts) ≡ put u (put t ts)
puts_commute t u [] h = grind (arith, nat_tests)
puts_commute t u (x ∷ xs) h = let ih = puts_commute t u xs h in grind (arith, nat_tests)

pub put_replaces : (t u : Translation) (ts : List Translation) → key u ≡ key t → put t (put u ts) ≡ put t ts
put_replaces t u [] h = grind (arith, nat_tests)
put_replaces t u (x ∷ xs) h = let ih = put_replaces t u xs h in grind (arith, nat_tests)

pub leave_out_undoes_put : (t : Translation) (ts : List Translation) → lookup ts (key t) ≡ None → leave_out (key t) (put t ts) ≡ ts
leave_out_undoes_put t [] h = grind (arith, nat_tests)
leave_out_undoes_put t (x ∷ xs) h = let ih = leave_out_undoes_put t xs in grind (arith, nat_tests)

pub leave_out_missing : (ts : List Translation) (k : ℕ) → lookup ts k ≡ None → leave_out k ts ≡ ts
leave_out_missing [] k h = refl
leave_out_missing (x ∷ xs) k h = let ih = leave_out_missing xs k in grind (arith, nat_tests)

absent_above : (m : ℕ) (ts : List Translation) (k : ℕ) → Above m ts → k ≤ m → lookup ts k ≡ None
absent_above m [] k a h = refl
absent_above m (x ∷ xs) k a h =
    rw (ne_eqb (key x) k (λ e. omega (arith, a.0))) (absent_above (key x) xs k a.1 (omega (arith, a.0)))

rising_behind : (m : ℕ) (ts : List Translation) → Above m ts → Rising ts
rising_behind m [] a = tt
rising_behind m (x ∷ xs) a = a.1

pub lookup_leave_out : (ts : List Translation) (k j : ℕ) → Rising ts → lookup (leave_out k ts) j ≡ cond (eqb k j) None (lookup ts j)
lookup_leave_out [] k j r = elim (eqb k j) as (λ b. ◌≡◌ {A = Option Info} None (cond b None None)) [ true ↦ refl | false ↦ refl ]
lookup_leave_out (x ∷ xs) k j r =
    let ih = lookup_leave_out xs k j (rising_behind (key x) xs r) in
    let gone : j ≤ key x → lookup xs j ≡ None = absent_above (key x) xs j r in
    grind (arith, nat_tests)

-- what a table finds after an insert that was accepted, and after a remove

pub found_inserted : (ts : List Translation) (n : ℕ) (t : Translation) (segment page : ℕ) → inserting ts n t ≡ Ok tt → found (inserted ts n t) segment page ≡ cond (eqb (key t) (key_of segment page)) (Some t.info) (found ts segment page)
unfolding found inserting inserted
found_inserted ts n t segment page ok =
    ⊎_elim
    (λ (yes : room ts n (key t) ≡ true). rw yes (lookup_put t ts (key_of segment page)))
    (λ (full : room ts n (key t) ≡ false).
    let e : inserting ts n t ≡ Err Full = rw full in
    let z : ◌≡◌ {A = ℕ} 0 1 = cc in
    absurd (omega arith))
    (cases_Bool (room ts n (key t)))

pub found_removed : (ts : List Translation) (s p segment page : ℕ) → Rising ts → found (without s p ts) segment page ≡ cond (eqb (key_of s p) (key_of segment page)) None (found ts segment page)
unfolding found without
found_removed ts s p segment page r = lookup_leave_out ts (key_of s p) (key_of segment page) r

-- a search of the slots

pub missing_from : (xs : List (Option Translation)) (k : ℕ) → NoneHolds xs k → Missing k xs
missing_from [] k h = tt
missing_from (x ∷ xs) k h = (h zero (omega arith), missing_from xs k (λ j l. h (suc j) (omega arith)))

missing_at : (xs : List (Option Translation)) (k i : ℕ) → Missing k xs → holds (get_or xs i None) k ≡ false
missing_at [] k i h = refl
missing_at (x ∷ xs) k zero h = h.0
missing_at (x ∷ xs) k (suc i) h = missing_at xs k i h.1

-- a slot with the key k, behind one whose key d the others lack
other_key : (xs : List (Option Translation)) (d k i : ℕ) → Missing d xs → holds (get_or xs i None) k ≡ true → d ≡ k → ⊥
other_key xs d k i m h e = both_ways (holds (get_or xs i None) k) (rw (← e) (missing_at xs d i m)) h

pub lookup_missing : (xs : List (Option Translation)) (k : ℕ) → Missing k xs → lookup (translations_of xs) k ≡ None
lookup_missing [] k h = refl
lookup_missing (None ∷ xs) k h = lookup_missing xs k h.1
lookup_missing (Some t ∷ xs) k h = lookup_put t (translations_of xs) k ∙ rw h.0 (lookup_missing xs k h.1)

pub lookup_at : (xs : List (Option Translation)) (k i : ℕ) → Distinct xs → holds (get_or xs i None) k ≡ true → lookup (translations_of xs) k ≡ info_in (get_or xs i None)
lookup_at [] k i d h = absurd (true≢false (sym h))
lookup_at (None ∷ xs) k zero d h = absurd (true≢false (sym h))
lookup_at (None ∷ xs) k (suc i) d h = lookup_at xs k i d h
lookup_at (Some t ∷ xs) k zero d h = lookup_put t (translations_of xs) k ∙ rw h
lookup_at (Some t ∷ xs) k (suc i) d h =
    let no : eqb (key t) k ≡ false = ne_eqb (key t) k (other_key xs (key t) k i d.0 h) in
    lookup_put t (translations_of xs) k ∙ rw no (lookup_at xs k i d.1 h)

-- a translation goes into a slot

pub put_in_free_slot : (xs : List (Option Translation)) (t : Translation) (i : ℕ) → i < length xs → get_or xs i None ≡ None → Missing (key t) xs → translations_of (set xs i (Some t)) ≡ put t (translations_of xs)
put_in_free_slot [] t i l f m = absurd (omega arith)
put_in_free_slot (None ∷ xs) t zero l f m = refl
put_in_free_slot (Some u ∷ xs) t zero l f m = let z : ◌≡◌ {A = ℕ} 0 1 = cc in absurd (omega arith)
put_in_free_slot (None ∷ xs) t (suc i) l f m = put_in_free_slot xs t i (omega arith) f m.1
put_in_free_slot (Some u ∷ xs) t (suc i) l f m =
    ap (put u) (put_in_free_slot xs t i (omega arith) f m.1) ∙ sym (puts_commute t u (translations_of xs) (eqb-false (key u) (key t) m.0))

pub put_in_own_slot : (xs : List (Option Translation)) (t : Translation) (i : ℕ) → Distinct xs → holds (get_or xs i None) (key t) ≡ true → translations_of (set xs i (Some t)) ≡ put t (translations_of xs)
put_in_own_slot [] t i d h = absurd (true≢false (sym h))
put_in_own_slot (None ∷ xs) t zero d h = absurd (true≢false (sym h))
put_in_own_slot (Some u ∷ xs) t zero d h = sym (put_replaces t u (translations_of xs) (eqb-true (key u) (key t) h))
put_in_own_slot (None ∷ xs) t (suc i) d h = put_in_own_slot xs t i d h
put_in_own_slot (Some u ∷ xs) t (suc i) d h =
    ap (put u) (put_in_own_slot xs t i d.1 h) ∙ sym (puts_commute t u (translations_of xs) (other_key xs (key u) (key t) i d.0 h))

-- slots stay distinct

missing_set : (xs : List (Option Translation)) (s : Option Translation) (k i : ℕ) → Missing k xs → holds s k ≡ false → Missing k (set xs i s)
missing_set [] s k i m h = tt
missing_set (x ∷ xs) s k zero m h = (h, m.1)
missing_set (x ∷ xs) s k (suc i) m h = (m.0, missing_set xs s k i m.1 h)

pub distinct_freed_slot : (xs : List (Option Translation)) (i : ℕ) → Distinct xs → Distinct (set xs i None)
distinct_freed_slot [] i d = tt
distinct_freed_slot (None ∷ xs) zero d = d
distinct_freed_slot (Some u ∷ xs) zero d = d.1
distinct_freed_slot (None ∷ xs) (suc i) d = distinct_freed_slot xs i d
distinct_freed_slot (Some u ∷ xs) (suc i) d = (missing_set xs None (key u) i d.0 refl, distinct_freed_slot xs i d.1)

pub distinct_new_key : (xs : List (Option Translation)) (t : Translation) (i : ℕ) → Distinct xs → Missing (key t) xs → Distinct (set xs i (Some t))
distinct_new_key [] t i d m = tt
distinct_new_key (None ∷ xs) t zero d m = (m.1, d)
distinct_new_key (Some u ∷ xs) t zero d m = (m.1, d.1)
distinct_new_key (None ∷ xs) t (suc i) d m = distinct_new_key xs t i d m.1
distinct_new_key (Some u ∷ xs) t (suc i) d m =
    let no = ne_eqb (key t) (key u) (λ q. eqb-false (key u) (key t) m.0 (sym q)) in
    (missing_set xs (Some t) (key u) i d.0 no, distinct_new_key xs t i d.1 m.1)

pub distinct_same_key : (xs : List (Option Translation)) (t : Translation) (i : ℕ) → Distinct xs → holds (get_or xs i None) (key t) ≡ true → Distinct (set xs i (Some t))
distinct_same_key [] t i d h = tt
distinct_same_key (None ∷ xs) t zero d h = absurd (true≢false (sym h))
distinct_same_key (Some u ∷ xs) t zero d h = (subst (λ k. Missing k xs) (eqb-true (key u) (key t) h) d.0, d.1)
distinct_same_key (None ∷ xs) t (suc i) d h = distinct_same_key xs t i d h
distinct_same_key (Some u ∷ xs) t (suc i) d h =
    let no = ne_eqb (key t) (key u) (λ q. other_key xs (key u) (key t) i d.0 h (sym q)) in
    (missing_set xs (Some t) (key u) i d.0 no, distinct_same_key xs t i d.1 h)

-- a slot freed

missing_freed : (xs : List (Option Translation)) (k i : ℕ) → Distinct xs → holds (get_or xs i None) k ≡ true → Missing k (set xs i None)
missing_freed [] k i d h = tt
missing_freed (None ∷ xs) k zero d h = absurd (true≢false (sym h))
missing_freed (Some u ∷ xs) k zero d h = (refl, subst (λ m. Missing m xs) (eqb-true (key u) k h) d.0)
missing_freed (None ∷ xs) k (suc i) d h = (refl, missing_freed xs k i d h)
missing_freed (Some u ∷ xs) k (suc i) d h = (ne_eqb (key u) k (other_key xs (key u) k i d.0 h), missing_freed xs k i d.1 h)

freed_by : (xs : List (Option Translation)) (s : Option Translation) (k i : ℕ) → Distinct xs → i < length xs → get_or xs i None ≡ s → holds s k ≡ true → translations_of (set xs i None) ≡ leave_out k (translations_of xs)
freed_by xs None k i d l q h = absurd (true≢false (sym h))
freed_by xs (Some t) k i d l q h =
    let t_k : key t ≡ k = eqb-true (key t) k h in
    let held : holds (get_or xs i None) (key t) ≡ true = rw q (eq-eqb (key t) (key t) refl) in
    let ys = set xs i None in
    let m : Missing (key t) ys = missing_freed xs (key t) i d held in
    let back : set ys i (Some t) ≡ xs = set-set xs i None (Some t) ∙ rw (← q) (set-get_or xs i None) in
    let again : translations_of xs ≡ put t (translations_of ys) =
    ap translations_of (sym back) ∙ put_in_free_slot ys t i (rw length-set l) (get_or-set_same xs i None None l) m
    in
    rw (← t_k, again) (sym (leave_out_undoes_put t (translations_of ys) (lookup_missing ys (key t) m)))

pub leave_out_by_freeing : (xs : List (Option Translation)) (k i : ℕ) → Distinct xs → HoldsAt xs k i → translations_of (set xs i None) ≡ leave_out k (translations_of xs)
leave_out_by_freeing xs k i d h = freed_by xs (get_or xs i None) k i d h.0 refl h.1

-- how many

fewer_than_slots : (xs : List (Option Translation)) (i : ℕ) → i < length xs → get_or xs i None ≡ None → length (translations_of xs) < length xs
fewer_than_slots [] i l f = absurd (omega arith)
fewer_than_slots (None ∷ xs) i l f = let ih = no_more_than_slots xs in omega arith
fewer_than_slots (Some u ∷ xs) zero l f = let z : ◌≡◌ {A = ℕ} 0 1 = cc in absurd (omega arith)
fewer_than_slots (Some u ∷ xs) (suc i) l f =
    let ih = fewer_than_slots xs i (omega arith) f in
    omega (arith, put_adds_one_at_most u (translations_of xs))

as_many_as_slots : (xs : List (Option Translation)) → Distinct xs → NoneFree xs → length (translations_of xs) ≡ length xs
as_many_as_slots [] d h = refl
as_many_as_slots (None ∷ xs) d h = absurd (h zero (omega arith) refl)
as_many_as_slots (Some u ∷ xs) d h =
    put_adds_one u (translations_of xs) (lookup_missing xs (key u) d.0) ∙ ap suc (as_many_as_slots xs d.1 (λ j l. h (suc j) (omega arith)))

-- whether there is room

some_held : (s : Option Translation) (k : ℕ) → holds s k ≡ true → is_some (info_in s) ≡ true
some_held None k h = absurd (true≢false (sym h))
some_held (Some t) k h = refl

pub room_for_held : (xs : List (Option Translation)) (k i n : ℕ) → Distinct xs → holds (get_or xs i None) k ≡ true → room (translations_of xs) n k ≡ true
room_for_held xs k i n d h = rw (lookup_at xs k i d h, some_held (get_or xs i None) k h)

pub room_while_free : (xs : List (Option Translation)) (k i : ℕ) → Missing k xs → FreeAt xs i → room (translations_of xs) (length xs) k ≡ true
room_while_free xs k i m f = rw (lookup_missing xs k m) (lt-ltb (length (translations_of xs)) (length xs) (fewer_than_slots xs i f.0 f.1))

pub no_room_when_full : (xs : List (Option Translation)) (k : ℕ) → Distinct xs → Missing k xs → NoneFree xs → room (translations_of xs) (length xs) k ≡ false
no_room_when_full xs k d m f =
    let e = as_many_as_slots xs d f in
    rw (lookup_missing xs k m) (le-ltb (length (translations_of xs)) (length xs) (omega arith))

-- free slots hold nothing

pub distinct_free : (n : ℕ) → Distinct (replicate n None)
distinct_free zero = tt
distinct_free (suc n) = distinct_free n

pub nothing_in_free : (n : ℕ) → translations_of (replicate n None) ≡ []
nothing_in_free zero = refl
nothing_in_free (suc n) = nothing_in_free n

pub free_from_each : (xs : List (Option Translation)) → ((j : ℕ) → j < length xs → get_or xs j None ≡ None) → xs ≡ replicate (length xs) None
free_from_each [] h = refl
free_from_each (None ∷ xs) h = ap (λ ys. None ∷ ys) (free_from_each xs (λ j l. h (suc j) (omega arith)))
free_from_each (Some u ∷ xs) h = let e = h zero (omega arith) in let z : ◌≡◌ {A = ℕ} 0 1 = cc in absurd (omega arith)

-- the records that are slots

pub usable_fitting : (rs : List (Option Translation)) → fitting (length rs) ≡ true → usable rs ≡ rs
usable_fitting rs ok = cond-true (fitting (length rs)) rs [] ok

-- where there is a slot, every record is one
pub usable_all : (rs : List (Option Translation)) (i : ℕ) → i < length (usable rs) → usable rs ≡ rs
usable_all rs i h =
    let P : Bool → Type 0 = λ b. i < length (cond b rs []) → cond b rs [] ≡ rs in
    (elim (fitting (length rs)) as P [ true ↦ λ l. refl | false ↦ λ l. absurd (omega arith) ]) h

pub usable_set : (rs : List (Option Translation)) (i : ℕ) (s : Option Translation) → usable (set rs i s) ≡ set (usable rs) i s
usable_set rs i s =
    let P : Bool → Type 0 = λ b. cond b (set rs i s) [] ≡ set (cond b rs []) i s in
    rw length-set (elim (fitting (length rs)) as P [ true ↦ refl | false ↦ refl ])

pub usable_freed : (rs : List (Option Translation)) → usable (freed rs) ≡ replicate (length (usable rs)) None
usable_freed rs =
    ⊎_elim
    (λ (ok : fitting (length rs) ≡ true). rw (ok, length-replicate, ok))
    (λ (bad : fitting (length rs) ≡ false). rw (bad, bad))
    (cases_Bool (fitting (length rs)))

-- the slot that an insert finds: that of the page, or a free one where the page has none
abbrev pub Fitting : List (Option Translation) → Translation → ℕ → Type 0
Fitting rs t i = HoldsAt (usable rs) (key t) i ⊎ (NoneHolds (usable rs) (key t) × FreeAt (usable rs) i)

-- a table over records finds, inserts and removes

module _ (rs : List (Option Translation)) (d : Distinct (usable rs)) where
  pub found_nowhere : (segment page : ℕ) → NoneHolds (usable rs) (key_of segment page) → None ≡ found (translations_of (usable rs)) segment page
  unfolding found
  found_nowhere segment page none =
      sym (lookup_missing (usable rs) (key_of segment page) (missing_from (usable rs) (key_of segment page) none))

  pub found_here : (segment page i : ℕ) (slot : Option Translation) → HoldsAt (usable rs) (key_of segment page) i → slot ≡ get_or rs i slot → info_in slot ≡ found (translations_of (usable rs)) segment page
  unfolding found
  found_here segment page i slot h e =
      let all = usable_all rs i h.0 in
      let here : i < length rs = omega (arith, ap length all, h.0) in
      let same : get_or (usable rs) i None ≡ slot = ap (λ xs. get_or xs i None) all ∙ get_or_default rs i None slot here ∙ sym e in
      sym (lookup_at (usable rs) (key_of segment page) i d h.1 ∙ ap info_in same)

  module _ (t : Translation) where
    -- the page has a slot already
    module _ (i : ℕ) (h : HoldsAt (usable rs) (key t) i) where
      replaced_answer : Ok tt ≡ inserting (translations_of (usable rs)) (length (usable rs)) t
      unfolding inserting
      replaced_answer = rw (room_for_held (usable rs) (key t) i (length (usable rs)) d h.1)

      replaced : translations_of (usable (set rs i (Some t))) ≡ inserted (translations_of (usable rs)) (length (usable rs)) t
      unfolding inserted
      replaced = rw (room_for_held (usable rs) (key t) i (length (usable rs)) d h.1, usable_set rs i (Some t)) (put_in_own_slot (usable rs) t i d h.1)

      replaced_sound : Distinct (usable (set rs i (Some t)))
      replaced_sound = rw (usable_set rs i (Some t)) (distinct_same_key (usable rs) t i d h.1)

    module _ (none : NoneHolds (usable rs) (key t)) where
      lacks : Missing (key t) (usable rs)
      lacks = missing_from (usable rs) (key t) none

      -- the page is new, and a slot is free
      module _ (i : ℕ) (f : FreeAt (usable rs) i) where
        added_answer : Ok tt ≡ inserting (translations_of (usable rs)) (length (usable rs)) t
        unfolding inserting
        added_answer = rw (room_while_free (usable rs) (key t) i lacks f)

        added : translations_of (usable (set rs i (Some t))) ≡ inserted (translations_of (usable rs)) (length (usable rs)) t
        unfolding inserted
        added = rw (room_while_free (usable rs) (key t) i lacks f, usable_set rs i (Some t)) (put_in_free_slot (usable rs) t i f.0 f.1 lacks)

        added_sound : Distinct (usable (set rs i (Some t)))
        added_sound = rw (usable_set rs i (Some t)) (distinct_new_key (usable rs) t i d lacks)

      -- the page is new, and no slot is free
      module _ (f : NoneFree (usable rs)) where
        pub full_answer : Err Full ≡ inserting (translations_of (usable rs)) (length (usable rs)) t
        unfolding inserting
        full_answer = rw (no_room_when_full (usable rs) (key t) d lacks f)

        pub full_unchanged : translations_of (usable rs) ≡ inserted (translations_of (usable rs)) (length (usable rs)) t
        unfolding inserted
        full_unchanged = rw (no_room_when_full (usable rs) (key t) d lacks f)

  module _ (t : Translation) (i : ℕ) (slot : Fitting rs t i) where
    pub entered_answer : Ok tt ≡ inserting (translations_of (usable rs)) (length (usable rs)) t
    entered_answer = ⊎_elim (λ h. replaced_answer t i h) (λ f. added_answer t f.0 i f.1) slot

    pub entered : translations_of (usable (set rs i (Some t))) ≡ inserted (translations_of (usable rs)) (length (usable rs)) t
    entered = ⊎_elim (λ h. replaced t i h) (λ f. added t f.0 i f.1) slot

    pub entered_sound : Distinct (usable (set rs i (Some t)))
    entered_sound = ⊎_elim (λ h. replaced_sound t i h) (λ f. added_sound t f.0 i f.1) slot

  pub removed : (segment page i : ℕ) → HoldsAt (usable rs) (key_of segment page) i → translations_of (usable (set rs i None)) ≡ without segment page (translations_of (usable rs))
  unfolding without
  removed segment page i h = rw (usable_set rs i None) (leave_out_by_freeing (usable rs) (key_of segment page) i d h)

  pub removed_sound : (i : ℕ) → Distinct (usable (set rs i None))
  removed_sound i = rw (usable_set rs i None) (distinct_freed_slot (usable rs) i d)

  pub removed_nothing : (segment page : ℕ) → NoneHolds (usable rs) (key_of segment page) → translations_of (usable rs) ≡ without segment page (translations_of (usable rs))
  unfolding without
  removed_nothing segment page none =
      let k = key_of segment page in
      sym (leave_out_missing (translations_of (usable rs)) k (lookup_missing (usable rs) k (missing_from (usable rs) k none)))

-- a write of a record leaves as many slots
pub slots_stay : (rs : List (Option Translation)) (i : ℕ) (s : Option Translation) → length (usable (set rs i s)) ≡ length (usable rs)
slots_stay rs i s = ap length (usable_set rs i s) ∙ length-set (usable rs) i s

-- records that were all freed
module _ (rs after : List (Option Translation)) (e : after ≡ freed rs) where
  pub freed_nothing : translations_of (usable after) ≡ []
  freed_nothing = rw (e, usable_freed rs) (nothing_in_free (length (usable rs)))

  pub freed_sound : Distinct (usable after)
  freed_sound = rw (e, usable_freed rs) (distinct_free (length (usable rs)))

  pub freed_slots : length (usable after) ≡ length (usable rs)
  freed_slots = rw (e, usable_freed rs) (length-replicate (length (usable rs)) None)

refused_by_room : (yes : Bool) (f : TableFault) (us ts : List Translation) → ◌≡◌ {A = Result (Unit {0}) TableFault} (Err f) (cond yes (Ok tt) (Err Full)) → cond yes us ts ≡ ts
refused_by_room true f us ts e = let z : ◌≡◌ {A = ℕ} 0 1 = cc in absurd (omega arith)
refused_by_room false f us ts e = refl

-- a refused insert changes nothing
pub refused_unchanged : (ts : List Translation) (n : ℕ) (t : Translation) (f : TableFault) → Err f ≡ inserting ts n t → inserted ts n t ≡ ts
unfolding inserting inserted
refused_unchanged ts n t f e = refused_by_room (room ts n (key t)) f (put t ts) ts e
