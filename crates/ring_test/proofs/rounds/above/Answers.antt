use Rattle.std.proofs.Common.{arith, of_z, refl, sym, to_z, w32, ◌∙◌}
use Rattle.lists.proofs.Words.{false≢true, ints}
use Rattle.geo_core.proofs.IntervalLaws.{IsIn-at}
use Rattle.ring_test.specs.Rings.{hole_of}
use Rattle.ring_test.proofs.SideLaws.{above_has, box_has_some, none_above, through}
use Rattle.ring_test.proofs.rounds.above.Goals as goal

pub returns-then-not-has : goal.returns-then-not-has
returns-then-not-has c k = (
  λ none. absurd none,
  λ (is, at). none_above (hole_of c.args.hole) (box_has_some c.args.hole) c.args.one k _ refl
      (λ i. false≢true (sym c.if-not-has.true ∙ c.has.ensures.1 (IsIn-at _ _ _ i refl refl (omega (arith, ints))))) is at,
)

pub returns : goal.returns
returns c k = through (c.falling.ensures k)
    (above_has (hole_of c.args.hole) (box_has_some c.args.hole) c.args.one k _ (to_z w32 (of_z w32 c.args.hole.columns.low)) _ _ (omega (arith, ints)) (omega (arith, ints))
    (omega (arith, ints)) (omega (arith, ints))
    (c.has.ensures.0 c.if-not-has.false))
