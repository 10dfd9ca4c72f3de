use Rattle.std.proofs.Common.{◌+◌, ◌∷◌, ◌++◌, [], ◌≡◌, ap, add-one, arith, subst, take, take_all, ◌∙◌}
use Rattle.open_grid.specs.inside.ZoneSteps.{LeftStandsFor}
use Rattle.open_grid.proofs.CountLaws.{many_ring}
use Rattle.open_grid.proofs.LeftLaws.{all_severed, as_many, beside, left_never, left_none, left_open}
use Rattle.open_grid.proofs.zones.look_closer.Goals as goal
use Rattle.open_grid.proofs.zones.look_closer.Goals.{in-Never, in-Open+in_ok-push-in-Open}

pub loop-one-init : goal.loop-one-init
loop-one-init c = (λ islands stand. rw c.new-left.ensures.items (left_none c.args.zone c.args.side), λ some single. some c.new-left.ensures.items)

pub returns-in-Always-clause-left : goal.returns-in-Always-clause-left
returns-in-Always-clause-left c = λ islands stand.
    let zone = c.args.zone in
    let side = c.args.side in
    let b = beside zone side c.args.looked.now islands c.loop-one.one-index c.one-item.result stand c.loop-one-test.true c.one-item.is in
    let told = rw c.in-Always.is at (c.in_ok-look_at_ring_first.ensures.told b.island b.stands) in
    let covers = rw c.as_slice.ensures at c.covers_none_at_a_corner-many.ensures in (
      all_severed zone side islands b.island b.among told,
      λ many. many_ring c.one_arc_parts_no_more.ensures.many zone side c.requires.some c.requires.few c.one-item.result b.island b.stands told (covers many) islands b.among,
    )

pub loop-one-preserved : goal.loop-one-preserved
loop-one-preserved c = (
  λ islands stand.
      let zone = c.args.zone in
      let side = c.args.side in
      let i = c.loop-one.one-index in
      let b = beside zone side c.args.looked.now islands i c.one-item.result stand c.loop-one-test.true c.one-item.is in
      let e : take (i + 1) islands ≡ take i islands ++ b.island ∷ [] = ap (λ n. take n islands) (add-one i) ∙ b.more in
      let told = c.in_ok-look_at_ring_first.ensures.told b.island b.stands in
      let before = c.loop-one.invariant.0 islands stand in
      elim c.match-branch-2.branch [
        | in-Never w ↦ rw (w.left-is, e) (left_never zone side (take i islands) c.loop-one.left.items before b.island (rw w.in-Never.is at told))
        | in-Open+in_ok-push-in-Open w ↦ rw (w.left-is, e, w.in_ok-push-in-Open.ensures.items)
            (left_open zone side (take i islands) c.loop-one.left.items before b.island w.in-Open.closer (rw w.in-Open.is at told))
      ],
  elim c.match-branch-2.branch [
    | in-Never w ↦ rw w.left-is c.loop-one.invariant.1
    | in-Open+in_ok-push-in-Open w ↦ λ some. rw w.in-Open.is at c.in_ok-look_at_ring_first.ensures.at_once
  ],
)

pub returns-clause-left : goal.returns-clause-left
returns-clause-left c = λ islands stand.
    let many = as_many c.args.zone c.args.side c.args.looked.now islands stand in
    let past = c.loop-one-test.false in
    rw c.from_vec.ensures (subst (λ is. LeftStandsFor c.args.zone c.args.side is c.loop-one.left.items) (take_all c.loop-one.one-index islands (omega arith)) (c.loop-one.invariant.0 islands stand))

pub returns-clause-at_once : goal.returns-clause-at_once
returns-clause-at_once c = rw c.from_vec.ensures c.loop-one.invariant.1
