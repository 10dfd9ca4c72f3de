use Rattle.std.proofs.Common.{SFits, rules, w32}
use Rattle.layer_map.proofs.TerminalLaws.{adds_place, place_is}
use Rattle.layer_map.proofs.terminals.add_place.Goals as goal

pub returns : goal.returns
returns c =
    let i_fits : SFits w32 c.args.terminal.cell.i = search rules in
    let j_fits : SFits w32 c.args.terminal.cell.j = search rules in
    rw (← place_is c.args.terminal i_fits j_fits)
    (adds_place c.args.places.now.keys c.insert.new.self.keys _ c.in_ok-insert.field-0 c.in_ok-insert.ensures.added c.in_ok-insert.ensures.keys)
