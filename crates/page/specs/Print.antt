-- What a program prints of a page: its report, or the notice of its refusal.
use Rattle.std.specs.Prelude.{ℕ, cond, List, length, nat_lt}
use Rattle.text.specs.Report.{notice_text, over}
use Rattle.page.specs.Build.{Page}

abbrev pub printed_length : Page → ℕ
printed_length p = cond (nat_lt p.answer 1000) p.answer (length (notice_text p.answer))

abbrev pub printed_text : Page → List ℕ
printed_text p = cond (nat_lt p.answer 1000) p.report (over (notice_text p.answer) p.report)
