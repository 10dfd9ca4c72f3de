use Rattle.short_area.proofs.Touching.{zones_all, zones_more}
use Rattle.short_area.proofs.zones.zones_of.Goals as goal

pub loop-piece-preserved : goal.loop-piece-preserved
loop-piece-preserved c =
    zones_more c.args.radius c.requires.least c.args.window c.args.pieces.now c.loop-piece.piece-index c.piece-item.result c.zone_of.result c.loop-piece.zones.items c.add_zone.new.zones.items
    c.loop-piece-test.true c.piece-item.is c.zone_of.ensures c.in_ok-add_zone.ensures c.loop-piece.invariant

pub returns : goal.returns
returns c = zones_all c.args.radius c.args.window c.args.pieces.now c.loop-piece.piece-index c.loop-piece.zones.items c.loop-piece-test.false c.loop-piece.invariant
