use Rattle.tile_board.specs.Machine.{opening}
use Rattle.tile_board.proofs.RunLaws.{opening_is_sound, events_keep}
use Rattle.tile_board.proofs.laws.board_runs.Goals as goal

pub returns : goal.returns
returns c limits events allowed = events_keep limits (opening limits) events allowed (opening_is_sound limits)
