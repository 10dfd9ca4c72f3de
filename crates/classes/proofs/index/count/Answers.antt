use Rattle.std.proofs.Common.{ℕ, ◌<◌, length, refl, arith, length-set}
use Rattle.classes.proofs.DegreeLaws.{in_range, counted_more, total_more, pair_at}
use Rattle.classes.proofs.index.count.Goals as goal

pub offset_bounds-degrees-a : goal.offset_bounds-degrees-a
offset_bounds-degrees-a c = let r = in_range _ c.args.pairs.now c.loop-a.a-index c.requires.below c.loop-a-test.true in omega arith

pub bounds-degrees-a : goal.bounds-degrees-a
bounds-degrees-a c = let r = in_range _ c.args.pairs.now c.loop-a.a-index c.requires.below c.loop-a-test.true in omega arith

pub bounds-degrees-a-in-loop-a : goal.bounds-degrees-a-in-loop-a
bounds-degrees-a-in-loop-a c = let r = in_range _ c.args.pairs.now c.loop-a.a-index c.requires.below c.loop-a-test.true in omega arith

pub offset_bounds-degrees-b : goal.offset_bounds-degrees-b
offset_bounds-degrees-b c = let r = in_range _ c.args.pairs.now c.loop-a.a-index c.requires.below c.loop-a-test.true in omega arith

pub bounds-degrees-b : goal.bounds-degrees-b
bounds-degrees-b c = let r = in_range _ c.args.pairs.now c.loop-a.a-index c.requires.below c.loop-a-test.true in omega (arith, length-set {A = ℕ})

pub bounds-degrees-b-in-loop-a : goal.bounds-degrees-b-in-loop-a
bounds-degrees-b-in-loop-a c = let r = in_range _ c.args.pairs.now c.loop-a.a-index c.requires.below c.loop-a-test.true in omega (arith, length-set {A = ℕ})

pub loop-a-preserved : goal.loop-a-preserved
loop-a-preserved c =
    let r = in_range _ c.args.pairs.now c.loop-a.a-index c.requires.below c.loop-a-test.true in
    let a : (pair_at c.args.pairs.now c.loop-a.a-index).0 < length c.loop-a.degrees = omega arith in
    let b : (pair_at c.args.pairs.now c.loop-a.a-index).1 < length c.loop-a.degrees = omega arith in
    record {
      counted = counted_more c.loop-a.degrees c.args.pairs.now c.loop-a.a-index _ _ c.loop-a-test.true refl refl a b c.loop-a.invariant.counted;
      total = total_more c.loop-a.degrees c.loop-a.a-index _ _ a b c.loop-a.invariant.total;
    }
