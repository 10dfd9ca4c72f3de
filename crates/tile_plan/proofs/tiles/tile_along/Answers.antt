use Rattle.std.proofs.Common.{◌*◌, ◌≡◌, arith, ap}
use Rattle.lists.proofs.Words.{ints, clamps}
use Rattle.tile_plan.proofs.AlongLaws.{ends_of_tile, tile_within}
use Rattle.tile_plan.proofs.tiles.tile_along.Goals as goal
use Rattle.tile_plan.proofs.tiles.tile_along.Goals.{After-from}

same_start : (c : After-from) → c.args.number * c.from.result ≡ c.args.number * c.args.edge
same_start c = ap (λ n. c.args.number * n) c.from.ensures

pub overflow_mul-start : goal.overflow_mul-start
overflow_mul-start c =
    let e = same_start c in
    let a = c.args.places.within.least in let b = c.args.places.within.most in let h = c.requires.begins in
    omega (arith, ints)

pub overflow_cast-low : goal.overflow_cast-low
overflow_cast-low c =
    let e = same_start (goal.at.overflow_cast-low c).After-from in
    let a = c.args.places.within.least in let b = c.args.places.within.most in let h = c.requires.begins in
    omega (arith, ints)

pub overflow_add-low : goal.overflow_add-low
overflow_add-low c =
    let e = same_start (goal.at.overflow_add-low c).After-from in
    let a = c.args.places.within.least in let b = c.args.places.within.most in let h = c.requires.begins in
    omega (arith, ints)

pub invariant_of-result : goal.invariant_of-result
invariant_of-result c =
    let e = same_start (goal.at.invariant_of-result c).After-from in
    let a = c.args.places.within.least in let b = c.args.places.within.most in let h = c.requires.begins in let m = c.min-high.ensures.value in
    record {
      within = tile_within c.args.places.low c.args.places.high (c.args.number * c.args.edge) c.args.edge _ _ (omega (arith, ints)) (omega (arith, ints, clamps))
          c.args.places.within c.requires.some h;
    }

pub returns : goal.returns
returns c x =
    let e = same_start (goal.at.returns c).After-from in
    let a = c.args.places.within.least in let b = c.args.places.within.most in let h = c.requires.begins in let m = c.min-high.ensures.value in
    ends_of_tile c.args.places.low c.args.places.high (c.args.number * c.args.edge) c.args.edge _ _ (omega (arith, ints)) (omega (arith, ints, clamps)) x
