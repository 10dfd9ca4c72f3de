use Rattle.lists.proofs.Words.{dedup_is, int_eq}
use Rattle.depth_sweep.proofs.PlaceLaws.{places_are}
use Rattle.depth_sweep.proofs.places.places.Goals as goal

pub returns : goal.returns
returns c = places_are c.args.window c.args.rects.now _ _ _ c.in_ok-places.ensures c.sort_unstable.ensures.permutation c.sort_unstable.ensures.sorted (dedup_is int_eq _ _ c.dedup.ensures.filtered)
