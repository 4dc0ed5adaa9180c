-- What a build comes to, test by test.
use Rattle.std.proofs.Common.{◌≡◌, ℕ, ◌+◌, ◌*◌, ◌<◌, ◌≤◌, Bool, true, false, cond, not, List, length, Ok, Err, Result, ◌⊎◌, eqb, sym, refl, ap, ◌∙◌, subst, inl, inr, ⊎_elim, arith, MatchResult}
use Rattle.std.proofs.lemmas.Bool.{cond-true, cond-false, lt-ltb, le-ltb, eqb-true, eqb-false}
use Rattle.refusal.specs.declared.Refusal.{Refusal}
use Rattle.refusal.specs.declared.Refusal.TheVariants.{UnknownMode, BadSize, SmallBuffer, TooManySteps}
use Rattle.memory.specs.Pages.{well_sized, sized, whole, unmarked}
use Rattle.machine.specs.State.{fresh}
use Rattle.page.specs.declared.refused.BuildRefused.{BuildRefused}
use Rattle.page.specs.declared.mode.Mode.{Mode}
use Rattle.page.specs.declared.mode.Mode.TheVariants.{Full, Fast}
use Rattle.page.specs.Mode.{mode_of}
use Rattle.page.specs.Refused.{refusal_number, by_itself}
use Rattle.page.specs.Build.{Outcome, refuses, driven, printing, building, Page, told, page_of, page, built}
use Rattle.page.specs.Printed.{Short, ShortText, DroveBytes, Built, Builds}

refused_size : (good : Bool) (r : Refusal) → ◌≡◌ {A = Result (Unit {0}) Refusal} (Err r) (cond good (Ok tt) (Err BadSize)) → (good ≡ false) × (r ≡ BadSize)
refused_size true r e = let z : ◌≡◌ {A = ℕ} 0 1 = cc in absurd (omega arith)
refused_size false r e = let same : r ≡ BadSize = cc in (refl, same)

accepted_size : (good : Bool) → ◌≡◌ {A = Result (Unit {0}) Refusal} (Ok tt) (cond good (Ok tt) (Err BadSize)) → good ≡ true
accepted_size true e = refl
accepted_size false e = let z : ◌≡◌ {A = ℕ} 0 1 = cc in absurd (omega arith)

-- a memory of whole pages is whole
well_whole : (bs : List ℕ) → well_sized (length bs) ≡ true → whole bs ≡ bs
well_whole bs ok = cond-true _ _ _ ok

-- a number is that of a mode, or no mode's
mode_by : (full fast : Bool) (x : Result Mode Refusal) → x ≡ cond full (Ok Full) (cond fast (Ok Fast) (Err UnknownMode)) → MatchResult x (λ _. (full ≡ true) ⊎ (fast ≡ true)) (λ r. (full ≡ false) × (fast ≡ false) × (r ≡ UnknownMode))
mode_by true fast (Ok m) e = inl refl
mode_by true fast (Err r) e = let z : ◌≡◌ {A = ℕ} 0 1 = cc in absurd (omega arith)
mode_by false true (Ok m) e = inr refl
mode_by false true (Err r) e = let z : ◌≡◌ {A = ℕ} 0 1 = cc in absurd (omega arith)
mode_by false false (Ok m) e = let z : ◌≡◌ {A = ℕ} 0 1 = cc in absurd (omega arith)
mode_by false false (Err r) e = (refl, refl, cc)

pub no_mode : (n : ℕ) (r : Refusal) → Err r ≡ mode_of n → (1 < n) × (r ≡ UnknownMode)
no_mode n r e =
    let both = mode_by (eqb n 0) (eqb n 1) (Err r) e in
    let zero = eqb-false n 0 both.0 in
    let one = eqb-false n 1 both.1 in
    (omega arith, both.2)

pub some_mode : (n : ℕ) (m : Mode) → Ok m ≡ mode_of n → n ≤ 1
some_mode n m e =
    ⊎_elim (λ h. let is = eqb-true n 0 h in omega arith) (λ h. let is = eqb-true n 1 h in omega arith) (mode_by (eqb n 0) (eqb n 1) (Ok m) e)

module _ (mode steps : ℕ) (image memory report : List ℕ) where
  -- a refusal leaves memory and report
  refused_as : (refusal : Refusal) (b : BuildRefused) → b ≡ by_itself refusal → refuses refusal memory report ≡ building mode steps image memory report → Built mode steps image memory report (Err b) memory report
  refused_as refusal b is e =
      record { outcome = ap (λ (x : BuildRefused). record { answer = Err x; memory = memory; report = report }) is ∙ e; short = tt }

  pub unknown_mode : (r : Refusal) (b : BuildRefused) → Err r ≡ mode_of mode → b ≡ by_itself r → Built mode steps image memory report (Err b) memory report
  unfolding building
  unknown_mode r b e is =
      let known = no_mode mode r e in
      refused_as UnknownMode b (is ∙ ap by_itself known.1) (sym (cond-true _ _ _ (lt-ltb _ _ known.0)))

  module _ (known : mode ≤ 1) where
    modeless : printing steps image memory report ≡ building mode steps image memory report
    unfolding building
    modeless = sym (cond-false _ _ _ (le-ltb _ _ known))

    pub bad_size : (r : Refusal) (b : BuildRefused) → Err r ≡ sized (length memory) → b ≡ by_itself r → Built mode steps image memory report (Err b) memory report
    unfolding printing
    bad_size r b e is =
        let both = refused_size (well_sized (length memory)) r e in
        refused_as BadSize b (is ∙ ap by_itself both.1) (sym (cond-true _ _ _ (ap not both.0)) ∙ modeless)

    module _ (good : Ok tt ≡ sized (length memory)) where
      good_size : well_sized (length memory) ≡ true
      good_size = accepted_size (well_sized (length memory)) good

      pub small_buffer : (b : BuildRefused) → length report < 256 → b ≡ by_itself SmallBuffer → Built mode steps image memory report (Err b) memory report
      unfolding printing
      small_buffer b h is = refused_as SmallBuffer b is (sym (cond-false _ _ _ (ap not good_size) ∙ cond-true _ _ _ (lt-ltb _ _ h)) ∙ modeless)

      module _ (large : 256 ≤ length report) where
        pub too_long : (b : BuildRefused) → 1000000 < steps → b ≡ by_itself TooManySteps → Built mode steps image memory report (Err b) memory report
        unfolding printing
        too_long b h is =
            refused_as TooManySteps b is (sym (cond-false _ _ _ (ap not good_size) ∙ cond-false _ _ _ (le-ltb _ _ large) ∙ cond-true _ _ _ (lt-ltb _ _ h)) ∙ modeless)

        built_driven : steps ≤ 1000000 → driven steps image report (fresh (whole memory) (unmarked (whole memory)) 16) ≡ building mode steps image memory report
        unfolding printing
        built_driven few =
            ap (λ (bs : List ℕ). driven steps image report (fresh bs (unmarked bs) 16)) (well_whole memory good_size) ∙
            sym (cond-false _ _ _ (ap not good_size) ∙ cond-false _ _ _ (le-ltb _ _ large) ∙ cond-false _ _ _ (le-ltb _ _ few)) ∙ modeless

        -- a page that was printed over the caller's bytes
        pub printed : (slots : ℕ) (r : Result ℕ BuildRefused) (memory' report' : List ℕ) → slots ≡ 16 → steps ≤ 1000000 → length memory' ≡ length memory → DroveBytes slots steps image memory report r memory' report' → Built mode steps image memory report r memory' report'
        printed slots r memory' report' sixteen few long d =
            let is_whole : memory' ≡ whole memory' = sym (well_whole memory' (ap well_sized long ∙ good_size)) in
            let by_slots = ap (λ (n : ℕ). driven steps image report (fresh (whole memory) (unmarked (whole memory)) n)) sixteen in
            record {
              outcome = (λ i. record { answer = d.answer i; memory = (is_whole ∙ d.memory) i; report = d.report i }) ∙ by_slots ∙ built_driven few;
              short = d.short;
            }

  -- ---- the same with a number for the answer

  short_told : (x : Result ℕ BuildRefused) → ShortText x → Short (told x)
  short_told (Ok n) s = λ _. s
  short_told (Err b) s = λ h. absurd (omega arith)

  pub builds : (x : Result ℕ BuildRefused) (r : ℕ) (memory' report' : List ℕ) → r ≡ told x → Built mode steps image memory report x memory' report' → Builds mode steps image memory report r memory' report'
  builds x r memory' report' number b =
      let e = ap page_of b.outcome in
      let whole = ap (λ (n : ℕ). record { answer = n; memory = memory'; report = report' }) number ∙ e in
      record {
        answer = ap (λ (p : Page). p.answer) whole;
        memory = ap (λ (p : Page). p.memory) whole;
        report = ap (λ (p : Page). p.report) whole;
        modeless = λ known. whole ∙ ap page_of (sym (modeless known));
        short = λ h. (let s = short_told x b.short in let is = number in subst (λ n. n < 256) (sym number) (s (subst (λ n. n < 1000) number h)));
      }
