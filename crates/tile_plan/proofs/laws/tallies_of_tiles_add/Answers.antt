use Rattle.tile_plan.proofs.laws.TallyingLaws.{all_tiles, next_tile, no_tile, sum_of_tiles}
use Rattle.tile_plan.proofs.laws.tallies_of_tiles_add.Goals as goal

pub returns-clause-no_tile : goal.returns-clause-no_tile
returns-clause-no_tile g c = no_tile

pub returns-clause-next_tile : goal.returns-clause-next_tile
returns-clause-next_tile g c = next_tile

pub returns-clause-all_tiles : goal.returns-clause-all_tiles
returns-clause-all_tiles g c = all_tiles

pub returns-clause-sum_of_tiles : goal.returns-clause-sum_of_tiles
returns-clause-sum_of_tiles g c = sum_of_tiles
