use Rattle.std.proofs.Common.{refl, ◌≡◌, true}
use Rattle.near_index.proofs.NearLaws.{far_above, far_below, near_places}
use Rattle.near_index.proofs.nearby.come_near.Goals as goal

pub returns-then-end_before : goal.returns-then-end_before
returns-then-end_before c = (λ t. cc, λ near. absurd (far_above c.args.places c.args.others c.args.reach (c.end_before.ensures.0 c.if-end_before.true) near))

pub returns-then-end_before-2 : goal.returns-then-end_before-2
returns-then-end_before-2 c = (λ t. cc, λ near. absurd (far_below c.args.places c.args.others c.args.reach (c.end_before-2.ensures.0 c.if-end_before-2.true) near))

pub returns : goal.returns
returns c = (
  λ t. near_places c.args.places c.args.others c.args.reach
      (λ l. let h : c.end_before.result ≡ true = c.end_before.ensures.1 l in cc (h, c.if-end_before.false))
      (λ l. let h : c.end_before-2.result ≡ true = c.end_before-2.ensures.1 l in cc (h, c.if-end_before-2.false)),
  λ near. refl,
)
