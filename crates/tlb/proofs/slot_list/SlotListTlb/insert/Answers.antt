use Rattle.std.proofs.Common.{rules, inl, inr, sym, subst}
use Rattle.tlb.specs.Table.{key}
use Rattle.tlb.specs.Slots.{usable, HoldsAt, FreeAt}
use Rattle.tlb.proofs.Laws.{Fitting, entered_answer, entered, entered_sound, full_answer, full_unchanged}
use Rattle.tlb.proofs.slot_list.SlotListTlb.insert.Goals as goal
use Rattle.tlb.proofs.slot_list.SlotListTlb.insert.Goals.{in-Some, in-None+in_ok-i-in-None}

pub returns-in_err-i-in-None-clause-answer : goal.returns-in_err-i-in-None-clause-answer
returns-in_err-i-in-None-clause-answer c = λ d. let e = full_answer c.args.self.now.records.now d c.args.translation c.in-None.ensures (search rules) in search rules

pub returns-in_err-i-in-None-clause-translations : goal.returns-in_err-i-in-None-clause-translations
returns-in_err-i-in-None-clause-translations c = λ d. full_unchanged c.args.self.now.records.now d c.args.translation c.in-None.ensures (search rules)

slot : (c : goal.After-index-self-i) → Fitting c.args.self.now.records.now c.args.translation c.match-place.i
slot c =
    elim c.match-place.branch [
      | in-Some w ↦ inl (subst (HoldsAt (usable c.args.self.now.records.now) (key c.args.translation)) (sym w.i-is) w.in-Some.ensures)
      | in-None+in_ok-i-in-None w ↦ inr (w.in-None.ensures, subst (FreeAt (usable c.args.self.now.records.now)) (sym w.i-is) (search rules))
    ]

pub returns-clause-answer : goal.returns-clause-answer
returns-clause-answer c = λ d. entered_answer c.args.self.now.records.now d c.args.translation c.match-place.i (slot c)

pub returns-clause-translations : goal.returns-clause-translations
returns-clause-translations c = λ d. entered c.args.self.now.records.now d c.args.translation c.match-place.i (slot c)

pub returns-clause-sound : goal.returns-clause-sound
returns-clause-sound c = λ d. entered_sound c.args.self.now.records.now d c.args.translation c.match-place.i (slot c)
