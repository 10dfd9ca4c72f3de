use Rattle.std.proofs.Common.{subst, sym}
use Rattle.rect_cover.specs.Coverings.{IsWellPlaced}
use Rattle.input_explanation.proofs.layouts.shapes.shapes_of.Goals as goal

pub cover-answer-requires : goal.cover-answer-requires
cover-answer-requires c = record {
  placed = subst (IsWellPlaced c.args.library.now.structures) (sym c.one-item.is)
      (c.requires c.loop-one.one-index c.one-item.result c.loop-one-test.true);
}
