use Rattle.tile_plan.proofs.TileLaws.{one_tile, same_tile, some_tile, tile_is_rectangle}
use Rattle.tile_plan.proofs.laws.tiles_part_the_window.Goals as goal

pub returns-clause-some : goal.returns-clause-some
returns-clause-some c = some_tile

pub returns-clause-one : goal.returns-clause-one
returns-clause-one c plan j k cell = λ less also. one_tile plan j k cell

pub returns-clause-rectangles : goal.returns-clause-rectangles
returns-clause-rectangles c = tile_is_rectangle

pub returns-clause-alone : goal.returns-clause-alone
returns-clause-alone c = same_tile
