use Rattle.std.proofs.Common.{◌∙◌, ℕ, ◌++◌, length, List, subst, Contains, ◌↔◌}
use Rattle.geo_core.specs.declared.plane.Rect.{Rect}
use Rattle.touch_sweep.specs.Touching.{AreTouchingAcross}
use Rattle.touch_sweep.proofs.AcrossSteps.{exact_meetings}
use Rattle.touch_sweep.proofs.meetings.Goals as goal

pub meeting_among-requires : goal.meeting_among-requires
meeting_among-requires c =
    let joined_is = c.as_slice.ensures.value ∙ c.in_ok-rects.ensures in
    λ a b listed. subst (λ (rects : List Rect). AreTouchingAcross rects (length c.args.first.now) a b) joined_is
    ((c.in_ok-touching.ensures a b).0 (subst (λ ps. Contains ps (a, b)) c.as_slice-2.ensures.value listed))

pub returns-clause-exact : goal.returns-clause-exact
returns-clause-exact c =
    let joined_is = c.as_slice.ensures.value ∙ c.in_ok-rects.ensures in
    let exact : (a b : ℕ) → Contains c.as_slice-2.result.now (a, b) ↔ AreTouchingAcross (c.args.first.now ++ c.args.second.now) (length c.args.first.now) a b =
    λ a b. rw (c.as_slice-2.ensures.value, ← joined_is) (c.in_ok-touching.ensures a b) in
    exact_meetings c.args.first.now c.args.second.now c.as_slice-2.result.now c.in_ok-pairs.pairs.items _ exact c.in_ok-pairs.ensures c.in_order.ensures.same
