use Rattle.std.proofs.Common.{sym, ap, ◌∙◌, if◌then◌else◌}
use Rattle.geo_core.specs.Plane.{mirror_image, quarter_turns, image_under}
use Rattle.geo_core.proofs.TurnLaws.{after_mirror, after_plain}
use Rattle.geo_core.proofs.turns.after.Goals as goal

pub returns-then-outer : goal.returns-then-outer
returns-then-outer c p =
    let inner = c.args.inner in
    after_mirror c.args.outer.quarters inner.quarters inner.reflect p inner.whole
    ∙ sym (ap (λ b. quarter_turns c.args.outer.quarters (if b then mirror_image (image_under inner p) else image_under inner p)) c.if-outer.true)

pub returns : goal.returns
returns c p =
    let inner = c.args.inner in
    after_plain c.args.outer.quarters inner.quarters inner.reflect p
    ∙ sym (ap (λ b. quarter_turns c.args.outer.quarters (if b then mirror_image (image_under inner p) else image_under inner p)) c.if-outer.false)
