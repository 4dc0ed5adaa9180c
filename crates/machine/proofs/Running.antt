-- Steps and runs, as they are called from outside.
use Rattle.std.proofs.Common.{◌≡◌, ℕ, zero, suc, ◌+◌, ◌-◌, ◌<◌, ◌≤◌, Bool, true, false, cond, ltb, ◌⊎◌, Ok, Err, Option, Result, sym, refl, ap, ◌∙◌, inl, inr, arith, MatchResult}
use Rattle.std.proofs.lemmas.Bool.{cond-true, cond-false, lt-ltb, le-ltb}
use Rattle.refusal.specs.declared.Refused.{Refused}
use Rattle.refusal.specs.declared.Refusal.TheVariants.{Halted, TooManySteps}
use Rattle.refusal.specs.Numbers.{refused}
use Rattle.memory.specs.declared.memory.Memory
use Rattle.tlb.specs.declared.table.Tlb
use Rattle.decode_cache.specs.declared.cache.DecodeCache
use Rattle.registers.specs.declared.registers.Registers.{Registers}
use Rattle.registers.specs.declared.trap.Trap.{Trap}
use Rattle.registers.specs.Access.{with_steps}
use Rattle.machine.specs.declared.fault.MachineFault.{MachineFault}
use Rattle.machine.specs.declared.fault.MachineFault.TheVariants.{Halted as Stopped}
use Rattle.machine.specs.declared.machine.Machine.{Machine}
use Rattle.machine.specs.declared.machine.run.Ran.{Ran}
use Rattle.machine.specs.State.{State, Done, with_registers}
use Rattle.machine.specs.Step.{turned, taken, run_after, run_count}
use Rattle.machine.specs.Calls.{going, refuses, accepts, counted, ran, step, run}
use Rattle.machine.specs.Machine.{view, Sound, lent, Did}
use Rattle.machine.proofs.Going.{holding, still_sound, did_registers}

-- ---- a run, in the state

after_more : (n : ℕ) (s t : State) → 0 < n → s.registers.halted ≡ false → t ≡ (turned s).state → run_after n s ≡ run_after (n - 1) t
after_more zero s t pos on is = absurd (omega arith)
after_more (suc n) s t pos on is =
    let e : suc n - 1 ≡ n = omega arith in
    ap (λ (b : Bool). cond b s (run_after n (turned s).state)) on ∙ ap (run_after n) (sym is) ∙ ap (λ (k : ℕ). run_after k t) (sym e)

count_more : (n : ℕ) (s t : State) → 0 < n → s.registers.halted ≡ false → t ≡ (turned s).state → run_count n s ≡ 1 + run_count (n - 1) t
count_more zero s t pos on is = absurd (omega arith)
count_more (suc n) s t pos on is =
    let e : suc n - 1 ≡ n = omega arith in
    ap (λ (b : Bool). cond b 0 (1 + run_count n (turned s).state)) on ∙ ap (λ (u : State). 1 + run_count n u) (sym is) ∙ ap (λ (k : ℕ). 1 + run_count k t) (sym e)

after_end : (n : ℕ) (s : State) → (n ≤ 0) ⊎ (s.registers.halted ≡ true) → run_after n s ≡ s
after_end zero s h = refl
after_end (suc n) s (inl h) = absurd (omega arith)
after_end (suc n) s (inr off) = ap (λ (b : Bool). cond b s (run_after n (turned s).state)) off

count_end : (n : ℕ) (s : State) → (n ≤ 0) ⊎ (s.registers.halted ≡ true) → run_count n s ≡ 0
count_end zero s h = refl
count_end (suc n) s (inl h) = absurd (omega arith)
count_end (suc n) s (inr off) = ap (λ (b : Bool). cond b 0 (1 + run_count n (turned s).state)) off

-- a machine goes on unless it has halted
going_by : (halted : Bool) (x : Result (Unit {0}) MachineFault) → x ≡ cond halted (Err Stopped) (Ok tt) → MatchResult x (λ _. halted ≡ false) (λ f. (halted ≡ true) × (f ≡ Stopped))
going_by true (Ok u) e = let z : ◌≡◌ {A = ℕ} 0 1 = cc in absurd (omega arith)
going_by true (Err f) e = (refl, cc)
going_by false (Ok u) e = refl
going_by false (Err f) e = let z : ◌≡◌ {A = ℕ} 0 1 = cc in absurd (omega arith)

pub not_going : (r : Registers) (f : MachineFault) → Err f ≡ going r → (r.halted ≡ true) × (f ≡ Stopped)
not_going r f e = going_by r.halted (Err f) e

pub still_going : (r : Registers) → Ok tt ≡ going r → r.halted ≡ false
still_going r e = going_by r.halted (Ok tt) e

module _ {M T C : Type 0} (mem : Memory.Ghosts M) (tlb : Tlb.Ghosts T) (cache : DecodeCache.Ghosts C) where
  -- ---- a step

  pub step_halted : (a : Machine M T C) → a.registers.halted ≡ true → Did mem tlb cache step a (Err (refused Halted)) a
  unfolding step
  step_halted a off = did_registers mem tlb cache step a (Err (refused Halted)) a.registers (sym (cond-true _ _ _ off))

  pub step_goes : (a b : Machine M T C) (n : Option Trap) (k : ℕ) (r : Registers) → a.registers.halted ≡ false → Did mem tlb cache turned a n b → k ≡ taken n → r ≡ with_steps b.registers 1 → Did mem tlb cache step a (Ok k) (holding b r)
  unfolding step
  step_goes a b n k r on p number is =
      let v = view mem tlb cache a in
      let e = sym (cond-false v.registers.halted (refuses v (refused Halted)) (accepts (taken (turned v).answer) (counted (turned v).state 1)) on) in
      record {
        answer = λ s. ap Ok (number ∙ ap taken (p.answer s)) ∙ ap (λ (d : Done (Result ℕ Refused)). d.answer) e;
        state = λ s. ap (with_registers (view mem tlb cache b)) is ∙ ap (λ (x : State). counted x 1) (p.state s) ∙ ap (λ (d : Done (Result ℕ Refused)). d.state) e;
        sound = λ s. still_sound mem tlb cache b r (p.sound s);
        same = p.same;
      }

  -- ---- a run

  pub run_halted : (n : ℕ) (a : Machine M T C) → a.registers.halted ≡ true → Did mem tlb cache (run n) a (Err (refused Halted)) a
  unfolding run
  run_halted n a off = did_registers mem tlb cache (run n) a (Err (refused Halted)) a.registers (sym (cond-true _ _ _ off))

  pub run_too_long : (n : ℕ) (a : Machine M T C) → a.registers.halted ≡ false → 1000000 < n → Did mem tlb cache (run n) a (Err (refused TooManySteps)) a
  unfolding run
  run_too_long n a on long = did_registers mem tlb cache (run n) a (Err (refused TooManySteps)) a.registers (sym (cond-false _ _ _ on ∙ cond-true _ _ _ (lt-ltb _ _ long)))

  -- what holds while a machine runs, with so many steps left
  pub record Running (n left : ℕ) (a b : Machine M T C) : Type 0 where
    pub within : left ≤ n
    pub after : Sound mem tlb cache a → run_after n (view mem tlb cache a) ≡ run_after left (view mem tlb cache b)
    pub count : Sound mem tlb cache a → run_count n (view mem tlb cache a) ≡ (n - left) + run_count left (view mem tlb cache b)
    pub sound : Sound mem tlb cache a → Sound mem tlb cache b
    pub same : lent mem tlb cache b ≡ lent mem tlb cache a

  pub run_goes : (n left : ℕ) (k : Option Trap) (a b d : Machine M T C) → 0 < left → b.registers.halted ≡ false → Running n left a b → Did mem tlb cache turned b k d → Running n (left - 1) a d
  run_goes n left k a b d pos on i p =
      let w = i.within in
      record {
        within = omega arith;
        after = λ s. i.after s ∙ after_more left (view mem tlb cache b) _ pos on (p.state (i.sound s));
        count = λ s. (let h = i.count s in let m = count_more left (view mem tlb cache b) _ pos on (p.state (i.sound s)) in omega arith);
        sound = λ s. p.sound (i.sound s);
        same = p.same ∙ i.same;
      }

  pub run_ends : (n left : ℕ) (halted : Bool) (a b : Machine M T C) (r : Registers) → a.registers.halted ≡ false → n ≤ 1000000 → (left ≤ 0) ⊎ (b.registers.halted ≡ true) → Running n left a b → r ≡ with_steps b.registers (n - left) → halted ≡ r.halted → Did mem tlb cache (run n) a (Ok (record { steps = n - left; halted = halted })) (holding b r)
  unfolding run
  run_ends n left halted a b r on few over i is mark =
      let v = view mem tlb cache a in
      let w = view mem tlb cache b in
      let e = sym (cond-false v.registers.halted (refuses v (refused Halted)) (cond (ltb 1000000 n) (refuses v (refused TooManySteps)) (accepts (ran n v) (counted (run_after n v) (run_count n v)))) on ∙ cond-false _ _ _ (le-ltb 1000000 n few)) in
      let last = λ (s : Sound mem tlb cache a). i.after s ∙ after_end left w over in
      let steps = λ (s : Sound mem tlb cache a). (let h = i.count s in let k = count_end left w over in let m : n - left ≡ run_count n v = omega arith in m) in
      let ended = λ (s : Sound mem tlb cache a). mark ∙ ap (λ (q : Registers). q.halted) is ∙ ap (λ (x : State). x.registers.halted) (sym (last s)) in
      let told = λ (s : Sound mem tlb cache a). ap (λ (k : ℕ). record { steps = k; halted = halted }) (steps s) ∙ ap (λ (h : Bool). record { steps = run_count n v; halted = h }) (ended s) in
      record {
        answer = λ s. ap Ok (told s) ∙ ap (λ (d : Done (Result Ran Refused)). d.answer) e;
        state = λ s. ap (with_registers w) is ∙ ap (counted w) (steps s) ∙ ap (λ (x : State). counted x (run_count n v)) (sym (last s)) ∙ ap (λ (d : Done (Result Ran Refused)). d.state) e;
        sound = λ s. still_sound mem tlb cache b r (i.sound s);
        same = i.same;
      }
