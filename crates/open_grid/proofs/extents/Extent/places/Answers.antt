use Rattle.std.proofs.Common.{arith, rules, to_z, of_z, w32, FitsSigned}
use Rattle.lists.proofs.Words.{ints, to_z-of_z}
use Rattle.open_grid.proofs.ExtentLaws.{no_places, spanning_places}
use Rattle.open_grid.proofs.extents.Extent.places.Goals as goal

pub returns-clause-some : goal.returns-clause-some
returns-clause-some c =
    let extent = c.args.self in
    let low_fits : FitsSigned w32 c.args.self.low = search rules in
    let high_fits : FitsSigned w32 c.args.self.high = search rules in
    spanning_places c.args.window extent.low extent.high _ _ c.first_reaching.result c.first_passing.result _ _ c.args.side (to_z-of_z w32 _ low_fits) (to_z-of_z w32 _ high_fits)
    c.first_reaching.ensures c.first_passing.ensures (grind (arith, to_z-of_z, c.max-low.ensures.value)) (grind (arith, to_z-of_z, c.min-high.ensures.value))

pub returns-then-low-high-clause-none : goal.returns-then-low-high-clause-none
returns-then-low-high-clause-none c x =
    let extent = c.args.self in
    let low_fits : FitsSigned w32 c.args.self.low = search rules in
    let high_fits : FitsSigned w32 c.args.self.high = search rules in
    no_places c.args.window extent.low extent.high _ _ c.first_reaching.result c.first_passing.result (to_z w32 (of_z w32 c.max-low.result)) (to_z w32 (of_z w32 c.min-high.result)) c.args.side
    (to_z-of_z w32 _ low_fits) (to_z-of_z w32 _ high_fits) c.first_reaching.ensures c.first_passing.ensures (grind (arith, to_z-of_z, c.max-low.ensures.value))
    (grind (arith, to_z-of_z, c.min-high.ensures.value)) x (let f = c.if-low-high.true in omega (arith, ints))

pub invariant_of-result : goal.invariant_of-result
invariant_of-result c = record {
  within = record {
    some = let f = c.if-low-high.false in omega (arith, ints);
    least = omega (arith, ints, c.max-low.ensures.self_bound);
    most = omega (arith, ints, c.min-high.ensures.self_bound);
  };
}
