use Rattle.std.proofs.Common.{◌≡◌, ◌%◌, ◌<◌, length, rules}
use Rattle.line_table.proofs.Setting.{kept_fewer, loses_one}
use Rattle.line_table.proofs.Lines.put.Goals as goal

pub returns-in-Some-clause-loses : goal.returns-in-Some-clause-loses
returns-in-Some-clause-loses g c =
    let ls = c.args.self.now in
    let place : c.in-Some.i ≡ g.K.Key.fold c.args.key % g.row.N = search rules in
    let within : g.K.Key.fold c.args.key % g.row.N < length ls = search rules in
    simp (c.fill.ensures, place, c.self.view_is) (loses_one g.K.PartialEq.eq g.met.K.Key.whole g.K.Key.fold g.row.N ls c.args.key c.args.value within)

pub returns-in-Some-clause-held : goal.returns-in-Some-clause-held
returns-in-Some-clause-held g c =
    let ls = c.args.self.now in
    let place : c.in-Some.i ≡ g.K.Key.fold c.args.key % g.row.N = search rules in
    let within : g.K.Key.fold c.args.key % g.row.N < length ls = search rules in
    simp (c.fill.ensures, place, c.self.view_is) (kept_fewer g.K.PartialEq.eq g.met.K.Key.whole g.K.Key.fold g.row.N ls c.args.key c.args.value within)
