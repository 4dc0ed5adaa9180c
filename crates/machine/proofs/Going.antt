-- What the parts of a machine's methods come to together, over any memory, table and cache.
use Rattle.std.proofs.Common.{◌≡◌, ℕ, Some, None, Ok, Err, Option, Result, sym, refl, ap, ◌∙◌}
use Rattle.memory.specs.declared.memory.Memory
use Rattle.tlb.specs.declared.table.Tlb
use Rattle.decode_cache.specs.declared.cache.DecodeCache
use Rattle.decode_cache.specs.declared.cache.Decoded.{Decoded}
use Rattle.registers.specs.declared.registers.Registers.{Registers}
use Rattle.registers.specs.declared.trap.Cause.{Cause}
use Rattle.registers.specs.declared.trap.Trap.{Trap}
use Rattle.registers.specs.declared.trap.Trap.TheVariants.{Interrupt}
use Rattle.registers.specs.Interrupts.{open_line, by_line, line_cleared, interrupt}
use Rattle.registers.specs.Trap.{trapped}
use Rattle.machine.specs.declared.machine.Machine.{Machine}
use Rattle.machine.specs.declared.way.Way.{Way}
use Rattle.machine.specs.declared.way.Fetched.{Fetched}
use Rattle.machine.specs.State.{State, Done, with_registers}
use Rattle.machine.specs.Reach.{way_of, code_of, fetched}
use Rattle.machine.specs.Step.{by_fetch, performed, attempted, turned}
use Rattle.machine.specs.Machine.{view, Sound, Did, Tried, Learned}
use Rattle.machine.proofs.Fetching.{fetch_barred, fetch_failed, fetch_done}
use Rattle.registers.specs.Tried.{ends, says}
use Rattle.registers.proofs.Tried.{tried_done, tried_failed}
use Rattle.machine.proofs.Stepping.{turned_interrupt, turned_done, turned_trapped}

pub same_state : (s t : State) → s.registers ≡ t.registers → s.bytes ≡ t.bytes → s.marks ≡ t.marks → s.slots ≡ t.slots → s.translations ≡ t.translations → s ≡ t
same_state s t r b m n ts = λ i. record { registers = r i; bytes = b i; marks = m i; slots = n i; translations = ts i }

-- a machine with other registers
abbrev pub holding : {M T C : Type 0} → Machine M T C → Registers → Machine M T C
holding a r = record { registers = r; memory = a.memory; tlb = a.tlb; cache = a.cache }

module _ {M T C : Type 0} (mem : Memory.Ghosts M) (tlb : Tlb.Ghosts T) (cache : DecodeCache.Ghosts C) where
  -- ---- only the registers were touched

  pub still_sound : (a : Machine M T C) (r : Registers) → Sound mem tlb cache a → Sound mem tlb cache (holding a r)
  still_sound a r s = record { table = s.table; lines = s.lines; coherent = s.coherent }

  pub did_registers : {A : Type 0} (call : State → Done A) (a : Machine M T C) (x : A) (r : Registers) → record { answer = x; state = with_registers (view mem tlb cache a) r } ≡ call (view mem tlb cache a) → Did mem tlb cache call a x (holding a r)
  did_registers call a x r e = record { answer = λ _. ap (λ (d : Done _). d.answer) e; state = λ _. ap (λ (d : Done _). d.state) e; sound = still_sound a r; same = refl }

  pub tried_registers : (f : State → Result State Cause) (a : Machine M T C) (r : Registers) → Ok (with_registers (view mem tlb cache a) r) ≡ f (view mem tlb cache a) → Tried mem tlb cache f a (Ok tt) (holding a r)
  tried_registers f a r e = record { answer = λ _. ap says e; state = λ _. ap (ends (view mem tlb cache a)) e; sound = still_sound a r; same = refl }

  pub tried_nothing : (f : State → Result State Cause) (a : Machine M T C) (c : Cause) (r : Registers) → r ≡ a.registers → Err c ≡ f (view mem tlb cache a) → Tried mem tlb cache f a (Err c) (holding a r)
  tried_nothing f a c r same e =
      record { answer = λ _. ap says e; state = λ _. ap (with_registers (view mem tlb cache a)) same ∙ ap (ends (view mem tlb cache a)) e; sound = still_sound a r; same = refl }

  -- ---- a fetch

  module _ (a b : Machine M T C) where
    pub fetch_stops : (c : Cause) → Learned mem tlb cache way_of a (Err c) b → Learned mem tlb cache fetched a (Err c) b
    fetch_stops c l = record { answer = λ s. fetch_barred (view mem tlb cache a) c (l.answer s); state = l.state; sound = l.sound; same = l.same }

    module _ (d : Machine M T C) (way : Way) (l : Learned mem tlb cache way_of a (Ok way) b) where
      stays : {A : Type 0} (f : State → A) (x : A) → Learned mem tlb cache f b x d → Sound mem tlb cache a → x ≡ f (view mem tlb cache a)
      stays f x k s = k.answer (l.sound s) ∙ ap f (l.state s)

      pub fetch_misses : (c : Cause) → Learned mem tlb cache (code_of way) b (Err c) d → Learned mem tlb cache fetched a (Err c) d
      fetch_misses c k =
          record {
            answer = λ s. fetch_failed (view mem tlb cache a) way c (l.answer s) (stays (code_of way) (Err c) k s);
            state = λ s. k.state (l.sound s) ∙ l.state s;
            sound = λ s. k.sound (l.sound s);
            same = k.same ∙ l.same;
          }

      pub fetch_finds : (i : Decoded) → Learned mem tlb cache (code_of way) b (Ok i) d → Learned mem tlb cache fetched a (Ok (record { user = way.user; decoded = i })) d
      fetch_finds i k =
          record {
            answer = λ s. fetch_done (view mem tlb cache a) way i (l.answer s) (stays (code_of way) (Ok i) k s);
            state = λ s. k.state (l.sound s) ∙ l.state s;
            sound = λ s. k.sound (l.sound s);
            same = k.same ∙ l.same;
          }

  -- ---- an instruction fetched and performed

  module _ (a b : Machine M T C) where
    pub attempt_stops : (c : Cause) → Learned mem tlb cache fetched a (Err c) b → Tried mem tlb cache attempted a (Err c) b
    unfolding attempted
    attempt_stops c l =
        let v = view mem tlb cache a in
        record {
          answer = λ s. ap (λ (x : Result Fetched Cause). says (by_fetch v x)) (l.answer s);
          state = λ s. l.state s ∙ ap (λ (x : Result Fetched Cause). ends v (by_fetch v x)) (l.answer s);
          sound = l.sound;
          same = l.same;
        }

    pub attempt_goes : (d : Machine M T C) (f : Fetched) (r : Result (Unit {0}) Cause) → Learned mem tlb cache fetched a (Ok f) b → Tried mem tlb cache (performed f) b r d → Tried mem tlb cache attempted a r d
    unfolding attempted
    attempt_goes d f r l p =
        let v = view mem tlb cache a in
        record {
          answer = λ s. p.answer (l.sound s) ∙ ap (λ (x : State). says (performed f x)) (l.state s) ∙ ap (λ (x : Result Fetched Cause). says (by_fetch v x)) (l.answer s);
          state = λ s. p.state (l.sound s) ∙ ap (λ (x : State). ends x (performed f x)) (l.state s) ∙ ap (λ (x : Result Fetched Cause). ends v (by_fetch v x)) (l.answer s);
          sound = λ s. p.sound (l.sound s);
          same = p.same ∙ l.same;
        }

  -- ---- a step

  pub turn_interrupted : (a : Machine M T C) (n : ℕ) (k : Option Trap) (q r : Registers) (c : Cause) → k ≡ Some Interrupt → Some n ≡ open_line a.registers → q ≡ by_line a.registers (open_line a.registers) → c ≡ interrupt n → r ≡ trapped q c → Did mem tlb cache turned a k (holding a r)
  turn_interrupted a n k q r c number line cleared is after =
      let q_is : q ≡ line_cleared a.registers n = cleared ∙ sym (ap (by_line a.registers) line) in
      did_registers turned a k r (turned_interrupt (view mem tlb cache a) n k r line number (after ∙ ap (λ (x : Registers). trapped x c) q_is ∙ ap (trapped (line_cleared a.registers n)) is))

  module _ (a b : Machine M T C) (q : Registers) (none : None ≡ open_line a.registers) (kept : q ≡ by_line a.registers (open_line a.registers)) where
    q_is : q ≡ a.registers
    q_is = kept ∙ sym (ap (by_line a.registers) none)

    v : State
    v = view mem tlb cache a

    -- the registers are as they were, so the attempt was one of the machine before
    here : view mem tlb cache (holding a q) ≡ view mem tlb cache a
    here = ap (with_registers (view mem tlb cache a)) q_is

    pub turn_done : Tried mem tlb cache attempted (holding a q) (Ok tt) b → Did mem tlb cache turned a None b
    turn_done p =
        let said = λ (s : Sound mem tlb cache a). p.answer (still_sound a q s) ∙ ap (λ (x : State). says (attempted x)) here in
        let ended = λ (s : Sound mem tlb cache a). p.state (still_sound a q s) ∙ ap (λ (x : State). ends x (attempted x)) here in
        let whole = λ (s : Sound mem tlb cache a). turned_done (view mem tlb cache a) _ none (tried_done (view mem tlb cache a) _ (said s)) in
        record {
          answer = λ s. ap (λ (d : Done (Option Trap)). d.answer) (whole s);
          state = λ s. ended s ∙ ap (λ (d : Done (Option Trap)). d.state) (whole s);
          sound = λ s. p.sound (still_sound a q s);
          same = p.same;
        }

    pub turn_trapped : (c : Cause) (n : Option Trap) (r : Registers) → Tried mem tlb cache attempted (holding a q) (Err c) b → n ≡ Some c.trap → r ≡ trapped b.registers c → Did mem tlb cache turned a n (holding b r)
    turn_trapped c n r p number is =
        let w = view mem tlb cache a in
        let failed = λ (s : Sound mem tlb cache a). tried_failed c _ (p.answer (still_sound a q s) ∙ ap (λ (x : State). says (attempted x)) here) in
        let stays = λ (s : Sound mem tlb cache a). p.state (still_sound a q s) ∙ ap (λ (x : State). ends x (attempted x)) here ∙ ap (ends w) (failed s) in
        let after = λ (s : Sound mem tlb cache a). is ∙ ap (λ (x : State). trapped x.registers c) (stays s) in
        let whole = λ (s : Sound mem tlb cache a). turned_trapped w c n r none (failed s) number (after s) in
        record {
          answer = λ s. ap (λ (d : Done (Option Trap)). d.answer) (whole s);
          state = λ s. ap (λ (x : State). with_registers x r) (stays s) ∙ ap (λ (d : Done (Option Trap)). d.state) (whole s);
          sound = λ s. still_sound b r (p.sound (still_sound a q s));
          same = p.same;
        }
