use Rattle.std.proofs.Common.{◌≡◌, arith}
use Rattle.net_extract.proofs.TerminalLaws.{is_on}
use Rattle.net_extract.proofs.anchors.terminal_on.Goals as goal

pub returns : goal.returns
returns c =
    let on_metal : c.args.terminal.now.metal ≡ c.args.metal = omega arith in
    is_on c.args.terminal.now c.args.number c.args.metal c.in_ok-rect.rect on_metal c.in_ok-rect.ensures.some
