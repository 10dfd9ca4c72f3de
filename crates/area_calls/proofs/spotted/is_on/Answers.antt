use Rattle.std.proofs.Common.{length, refl}
use Rattle.lists.proofs.Words.{slice_get_read}
use Rattle.area_calls.proofs.spotted.is_on.Goals as goal

pub returns-then-is_within : goal.returns-then-is_within
returns-then-is_within c t d has = record {
  number = c.loop-piece.piece-index;
  rect = c.piece-item.result;
  at = slice_get_read c.args.pieces.now (length c.args.pieces.now) c.loop-piece.piece-index c.piece-item.result refl c.loop-piece-test.true c.piece-item.is;
  has = c.is_within.ensures c.if-is_within.true d has;
}
