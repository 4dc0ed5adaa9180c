use Rattle.std.proofs.Common.{Result, Err, ap, ◌∙◌}
use Rattle.std.proofs.lemmas.Result.{err_from_is_err_and}
use Rattle.image.specs.declared.LoadRefused.{LoadRefused}
use Rattle.machine.specs.State.{State}
use Rattle.machine.specs.Machine.{view, Sound}
use Rattle.loader.specs.Load.{load}
use Rattle.page.specs.Build.{Outcome, ran_and_reported, after_load, driven}
use Rattle.page.proofs.build.load_and_run.Goals as goal

pub returns-in_err-load : goal.returns-in_err-load
unfolding driven
returns-in_err-load g c =
    let v = view g.M.Memory g.T.Tlb g.C.DecodeCache c.args.machine.now in
    let before = c.args.report.now in
    let p = err_from_is_err_and c.from_residual.result c.from_residual.ensures.1 in
    let loaded = c.in_err-load.ensures in
    let whole = λ (s : Sound g.M.Memory g.T.Tlb g.C.DecodeCache c.args.machine.now).
    ap (λ (x : Result (Unit {0}) LoadRefused). after_load c.args.job.steps before x (load c.args.job.image.now v).state) (loaded.answer s) in
    rw (p.1, p.2) (record {
      answer = λ s. ap (λ (o : Outcome). o.answer) (whole s);
      memory = λ s. ap (λ (w : State). w.bytes) (loaded.state s) ∙ ap (λ (o : Outcome). o.memory) (whole s);
      report = λ s. ap (λ (o : Outcome). o.report) (whole s);
      short = tt;
      same = loaded.same;
    })

pub returns : goal.returns
unfolding driven
returns g c =
    let v = view g.M.Memory g.T.Tlb g.C.DecodeCache c.args.machine.now in
    let before = c.args.report.now in
    let loaded = c.in_ok-load.ensures in
    let printed = c.finish.ensures in
    let whole = λ (s : Sound g.M.Memory g.T.Tlb g.C.DecodeCache c.args.machine.now).
    ap (ran_and_reported c.args.job.steps before) (loaded.state s) ∙ ap (λ (x : Result (Unit {0}) LoadRefused). after_load c.args.job.steps before x (load c.args.job.image.now v).state) (loaded.answer s) in
    record {
      answer = λ s. printed.answer (loaded.sound s) ∙ ap (λ (o : Outcome). o.answer) (whole s);
      memory = λ s. printed.memory (loaded.sound s) ∙ ap (λ (o : Outcome). o.memory) (whole s);
      report = λ s. printed.report (loaded.sound s) ∙ ap (λ (o : Outcome). o.report) (whole s);
      short = printed.short;
      same = printed.same ∙ loaded.same;
    }
