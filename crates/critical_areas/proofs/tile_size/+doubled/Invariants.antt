use Rattle.std.proofs.Common.{◌-◌}
use Rattle.critical_areas.proofs.tile_size.+doubled.Given as goal

abbrev pub decreases-doubled : goal.decreases-doubled
decreases-doubled l = 1000000000 - l.edge
