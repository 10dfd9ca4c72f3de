use Rattle.short_area.proofs.Counting.{count_by_zones, count_small}
use Rattle.short_area.proofs.areas.short_area.Goals as goal

pub returns-clause-tally : goal.returns-clause-tally
returns-clause-tally c = count_by_zones c.args.pieces.now c.in_ok-zones.zones.items c.args.r c.args.window c.two_label_area.result c.requires.least c.in_ok-zones.ensures c.two_label_area.ensures

pub returns-clause-small : goal.returns-clause-small
returns-clause-small c = count_small c.in_ok-zones.zones.items c.args.window c.two_label_area.result c.two_label_area.ensures
