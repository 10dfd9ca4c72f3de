use Rattle.std.proofs.Common.{refl, sym, take_all, ◌∙◌}
use Rattle.lists.proofs.Words.{false≢true}
use Rattle.ring_test.specs.Rings.{hole_of}
use Rattle.ring_test.proofs.HoleLaws.{all_more, on_none, on_piece}
use Rattle.ring_test.proofs.answers.has_all.Goals as goal

pub loop-rect-init : goal.loop-rect-init
loop-rect-init c h on = absurd (on_none h on)

pub loop-rect-preserved : goal.loop-rect-preserved
loop-rect-preserved c = all_more (hole_of c.args.hole) c.args.rects.now c.loop-rect.rect-index c.rect-item.result c.loop-rect-test.true c.rect-item.is c.loop-rect.invariant
    (λ h on. let has = c.is_within.ensures.0 c.if-not-is_within.false h ((c.of_rect-one.ensures h).1 on) in (has.across, has.up))

pub returns-then-not-is_within : goal.returns-then-not-is_within
returns-then-not-is_within c = (
  λ f. absurd (false≢true f),
  λ all. absurd (false≢true (sym c.if-not-is_within.true ∙ c.is_within.ensures.1 (λ h has.
      let is = all h (on_piece c.args.rects.now c.loop-rect.rect-index c.rect-item.result h c.loop-rect-test.true c.rect-item.is ((c.of_rect-one.ensures h).0 has)) in
      record { across = is.0; up = is.1 }))),
)

pub returns : goal.returns
returns c = (
  λ t h on. c.loop-rect.invariant h (rw (take_all c.loop-rect.rect-index c.args.rects.now c.loop-rect-test.false) on),
  λ all. refl,
)
