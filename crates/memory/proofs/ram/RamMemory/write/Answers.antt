use Rattle.std.proofs.Common.{refl}
use Rattle.std.proofs.lemmas.Result.{err_from_is_err_and}
use Rattle.memory.specs.Pages.{whole}
use Rattle.memory.proofs.Whole.{fits_bytes, accepts, writes, marks_stay, writes_outside, writes_nothing, read_inside, read_outside}
use Rattle.memory.proofs.ram.RamMemory.write.Goals as goal

pub returns-in_err-read : goal.returns-in_err-read
returns-in_err-read c =
    let bs = whole c.args.self.now.bytes.now in
    let past = read_outside bs c.args.width c.args.address _ c.in_err-read.ensures.value in
    let p = err_from_is_err_and c.from_residual.result c.from_residual.ensures.1 in
    rw (p.1, p.2, past.1) (record {
      answer = writes_outside bs c.args.width c.args.address past.0 _;
      after = writes_nothing bs c.args.width c.args.address past.0 _ c.args.value;
      same = refl;
      rooted = refl;
    })

pub store-requires : goal.store-requires
store-requires c = fits_bytes c.args.self.now.bytes.now c.args.width c.args.address (read_inside _ _ _ _ c.in_ok-read.ensures.value)

pub returns : goal.returns
returns c =
    let bs = c.args.self.now.bytes.now in
    let ok = read_inside (whole bs) c.args.width c.args.address _ c.in_ok-read.ensures.value in
    record {
      answer = accepts bs c.args.width c.args.address ok;
      after = writes bs c.args.width c.args.address ok c.args.value _ c.store.ensures;
      same = marks_stay bs c.args.width c.args.address ok c.args.value _ c.store.ensures;
      rooted = refl;
    }
