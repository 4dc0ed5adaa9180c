-- Records applied one after another.
use Rattle.std.proofs.Common.{◌≡◌, ℕ, List, [], ◌∷◌, Ok, Err, Result, sym, refl, ap, ◌∙◌, arith}
use Rattle.refusal.specs.declared.Refused.{Refused}
use Rattle.image.specs.declared.LoadRefused.{LoadRefused}
use Rattle.image.specs.declared.Spot.{Spot}
use Rattle.image.specs.Faults.{refused_at}
use Rattle.image.specs.Records.{Asked}
use Rattle.image.specs.Parsed.{Placed, begun, cons_ok, whole, unless_refused, parsed, says}
use Rattle.image.proofs.Reading.{says_cons}
use Rattle.memory.specs.declared.memory.Memory
use Rattle.tlb.specs.declared.table.Tlb
use Rattle.decode_cache.specs.declared.cache.DecodeCache
use Rattle.machine.specs.declared.machine.Machine.{Machine}
use Rattle.machine.specs.State.{State}
use Rattle.machine.specs.Calls.{Answer}
use Rattle.machine.specs.Machine.{view, Sound, lent, Did}
use Rattle.loader.specs.Load.{applied, apply_next, load_parsed, load}

-- of records that are all there, the first is applied, and then the rest
one_applied : (x : Placed) (r : Result (List Placed) LoadRefused) (s : State) → says (cons_ok x r) ≡ Ok tt → load_parsed s (cons_ok x r) ≡ apply_next x.0 (λ s. load_parsed s r) (applied x.1 s).answer (applied x.1 s).state
one_applied x (Ok xs) s fine = refl
one_applied x (Err e) s fine = grind arith

module _ {M T C : Type 0} (mem : Memory.Ghosts M) (tlb : Tlb.Ghosts T) (cache : DecodeCache.Ghosts C) (image : List ℕ) where
  refused_as : (r : Result (List Placed) LoadRefused) (e : LoadRefused) (a : Machine M T C) → Err e ≡ says r → Did mem tlb cache (λ s. load_parsed s r) a (Err e) a
  refused_as (Ok xs) e a bad = grind arith
  refused_as (Err f) e a bad = record { answer = λ _. bad; state = λ _. refl; sound = λ s. s; same = refl }

  pub load_refused : (e : LoadRefused) (a : Machine M T C) → Err e ≡ says (parsed image) → Did mem tlb cache (load image) a (Err e) a
  unfolding load
  load_refused e a bad = refused_as (parsed image) e a bad

  -- what holds while some records are left to read
  pub record Loading (left : List (Result Placed LoadRefused)) (a b : Machine M T C) : Type 0 where
    pub fine : says (whole left) ≡ Ok tt
    pub after : Sound mem tlb cache a → load image (view mem tlb cache a) ≡ load_parsed (view mem tlb cache b) (whole left)
    pub sound : Sound mem tlb cache a → Sound mem tlb cache b
    pub same : lent mem tlb cache b ≡ lent mem tlb cache a

  pub load_starts : (left : List (Result Placed LoadRefused)) (a : Machine M T C) → Ok left ≡ begun image → Ok tt ≡ says (parsed image) → Loading left a a
  unfolding load parsed
  load_starts left a begins fine =
      let is : parsed image ≡ whole left = ap unless_refused (sym begins) in
      record { fine = sym (fine ∙ ap says is); after = λ _. ap (load_parsed (view mem tlb cache a)) is; sound = λ s. s; same = refl }

  pub load_ends : (a b : Machine M T C) → Loading [] a b → Did mem tlb cache (load image) a (Ok tt) b
  load_ends a b l = record { answer = λ s. grind (arith, l.after s); state = λ s. grind (arith, l.after s); sound = l.sound; same = l.same }

  module _ (spot : Spot) (x : Asked) (left : List (Result Placed LoadRefused)) (a b d : Machine M T C) (l : Loading (Ok (spot, x) ∷ left) a b) where
    by : (r : Answer) → Did mem tlb cache (applied x) b r d → Sound mem tlb cache a → load image (view mem tlb cache a) ≡ apply_next spot (λ s. load_parsed s (whole left)) r (view mem tlb cache d)
    by r did s =
        l.after s ∙ one_applied (spot, x) (whole left) (view mem tlb cache b) l.fine ∙
        ap (λ (y : Answer). apply_next spot (λ s. load_parsed s (whole left)) y (applied x (view mem tlb cache b)).state) (sym (did.answer (l.sound s))) ∙
        ap (apply_next spot (λ s. load_parsed s (whole left)) r) (sym (did.state (l.sound s)))

    pub load_goes : Did mem tlb cache (applied x) b (Ok tt) d → Loading left a d
    load_goes did = record { fine = sym (says_cons (spot, x) (whole left)) ∙ l.fine; after = by (Ok tt) did; sound = λ s. did.sound (l.sound s); same = did.same ∙ l.same }

    pub load_stops : (e : Refused) → Did mem tlb cache (applied x) b (Err e) d → Did mem tlb cache (load image) a (Err (refused_at spot e)) d
    load_stops e did =
        record { answer = λ s. grind (arith, by (Err e) did s); state = λ s. grind (arith, by (Err e) did s); sound = λ s. did.sound (l.sound s); same = did.same ∙ l.same }

pub ruleset load_steps = (load_refused, load_ends, load_goes, load_stops)
