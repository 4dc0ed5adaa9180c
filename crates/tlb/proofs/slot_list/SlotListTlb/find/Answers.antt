use Rattle.std.proofs.Common.{rules}
use Rattle.tlb.proofs.Laws.{found_nowhere, found_here}
use Rattle.tlb.proofs.slot_list.SlotListTlb.find.Goals as goal

pub returns-in_err-i-clause-answer : goal.returns-in_err-i-clause-answer
returns-in_err-i-clause-answer c = λ d. let e = found_nowhere c.args.self.now.records.now d c.args.page.segment c.args.page.number c.in_err-i.ensures in search rules

pub returns-clause-answer : goal.returns-clause-answer
returns-clause-answer c = λ d. let e = found_here c.args.self.now.records.now d c.args.page.segment c.args.page.number c.in_ok-i.i c.index-self-i.result c.in_ok-i.ensures c.index-self-i.is in search rules
