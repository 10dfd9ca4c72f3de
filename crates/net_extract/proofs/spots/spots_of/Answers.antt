use Rattle.std.proofs.Common.{map, take, pos}
use Rattle.lists.proofs.Words.{map_more}
use Rattle.lists.proofs.Pairing.{AllZip-push}
use Rattle.net_extract.specs.AnchoredIslands.{IsSpotOfTerminal}
use Rattle.net_extract.specs.declared.metal_terminals.MetalTerminal.TheVariants.{Named}
use Rattle.net_extract.specs.declared.metal_terminals.Standing.{Standing}
use Rattle.net_extract.proofs.spots.spots_of.Goals as goal

pub loop-standing-preserved : goal.loop-standing-preserved
loop-standing-preserved c =
    let terminals = c.args.terminals.now in
    let k = c.loop-standing.standing-index in
    let none : Standing = record { island = 0; terminal = Named (record { i = pos 0; j = pos 0 }) } in
    let terminal_of = λ (standing : Standing). standing.terminal in
    rw (c.in_ok-push.ensures.items, map_more terminal_of terminals k none c.loop-standing-test.true)
    (AllZip-push (IsSpotOfTerminal c.args.groups.now) (map terminal_of (take k terminals)) c.loop-standing.spots.items _ c.in_ok-spot_of.field-0 c.loop-standing.invariant c.in_ok-spot_of.ensures)
