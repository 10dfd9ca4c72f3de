use Rattle.std.proofs.Common.{refl, sym, take_all, ◌∙◌}
use Rattle.lists.proofs.Containing.{Contains-none}
use Rattle.lists.proofs.Words.{false≢true}
use Rattle.ring_test.specs.Rings.{hole_of}
use Rattle.ring_test.proofs.HoleLaws.{none_more}
use Rattle.ring_test.proofs.answers.loses_any.Goals as goal

pub loop-spot-init : goal.loop-spot-init
loop-spot-init c spot among all = Contains-none among

pub loop-spot-preserved : goal.loop-spot-preserved
loop-spot-preserved c = none_more (hole_of c.args.hole) c.args.spots.now c.loop-spot.spot-index c.spot-item.result c.loop-spot-test.true c.spot-item.is c.loop-spot.invariant
    (λ all. false≢true (sym c.if-has_all.false ∙ (rw c.as_slice-rects.ensures at c.has_all.ensures).1 all))

pub returns-then-has_all : goal.returns-then-has_all
returns-then-has_all c = (
  λ t. (c.spot-item.result, (c.loop-spot.spot-index, c.loop-spot-test.true, sym c.spot-item.is), (rw c.as_slice-rects.ensures at c.has_all.ensures).0 c.if-has_all.true),
  λ o. refl,
)

pub returns : goal.returns
returns c = (
  λ f. absurd (false≢true f),
  λ (spot, among, all). absurd (c.loop-spot.invariant spot (rw (take_all c.loop-spot.spot-index c.args.spots.now c.loop-spot-test.false) among) all),
)
