use Rattle.std.proofs.Common.{arith}
use Rattle.std.specs.Slots.{slots_items}
use Rattle.tile_board.proofs.ClosingLaws.{one_more}
use Rattle.tile_board.proofs.board.read_totals.Goals as goal

pub loop-slot-preserved : goal.loop-slot-preserved
loop-slot-preserved c = one_more c.loop-slot.totals (slots_items c.args.closed.now.words) c.loop-slot.slot c.word.result (omega arith) c.word.ensures c.loop-slot.invariant
