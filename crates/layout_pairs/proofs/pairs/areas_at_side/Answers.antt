use Rattle.std.proofs.Common.{◌/◌, arith, sym, subst}
use Rattle.net_pairs.specs.Pairs.{ArePairAreas}
use Rattle.layout_pairs.proofs.MetalPairLaws.{none_at_one}
use Rattle.layout_pairs.proofs.pairs.areas_at_side.Goals as goal

pub returns-then-side-lt2 : goal.returns-then-side-lt2
returns-then-side-lt2 c =
    subst (ArePairAreas c.args.pieces.now (c.args.side / 2) c.args.window) (sym c.new.ensures.items) (none_at_one c.args.pieces.now c.args.side c.args.window (omega arith))

pub returns : goal.returns
returns c = rw c.reach_of_side.ensures.half at c.pair_areas.ensures
