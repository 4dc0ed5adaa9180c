use Rattle.std.proofs.Common.{◌≡◌, rules}
use Rattle.page.specs.Build.{told}
use Rattle.page.proofs.Pages.{builds}
use Rattle.page.proofs.build.vcpu32_build.Goals as goal

pub returns : goal.returns
returns c =
    let number : c.unwrap_or_else.result ≡ told c.build.result = search rules in
    let b = builds c.args.mode c.args.steps c.args.image.now c.args.memory.now c.args.report.now c.build.result _ _ _ number c.build.ensures in
    record { answer = b.answer; memory = b.memory; report = b.report; short = b.short; builds = b }
