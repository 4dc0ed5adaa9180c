use Rattle.std.proofs.Common.{refl}
use Rattle.std.proofs.lemmas.Result.{err_from_is_err_and}
use Rattle.memory.specs.Pages.{whole}
use Rattle.memory.proofs.Whole.{refuses, refuses_all, writes_outside, writes_nothing, read_inside, read_outside}
use Rattle.memory.proofs.rom.RomMemory.write.Goals as goal

pub returns-in_err-read : goal.returns-in_err-read
returns-in_err-read c =
    let bs = whole c.args.self.now.bytes.now in
    let past = read_outside bs c.args.width c.args.address _ c.in_err-read.ensures.value in
    let p = err_from_is_err_and c.from_residual.result c.from_residual.ensures.1 in
    rw (p.1, p.2, past.1) (record {
      answer = writes_outside bs c.args.width c.args.address past.0 _;
      after = writes_nothing bs c.args.width c.args.address past.0 _ c.args._value;
      same = refl;
      rooted = refl;
    })

pub returns : goal.returns
returns c =
    let bs = c.args.self.now.bytes.now in
    let ok = read_inside (whole bs) c.args.width c.args.address _ c.in_ok-read.ensures.value in
    record {
      answer = refuses bs c.args.width c.args.address ok;
      after = refuses_all bs c.args.width c.args.address ok c.args._value;
      same = refl;
      rooted = refl;
    }
