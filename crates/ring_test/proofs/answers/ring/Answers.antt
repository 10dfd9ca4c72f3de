use Rattle.std.proofs.Common.{subst}
use Rattle.fault_model.specs.IslandLists.{IsAnchoredIsland}
use Rattle.ring_test.specs.Rings.{hole_at, hole_of}
use Rattle.ring_test.proofs.AnswerLaws.{one_arc_settles, told_many, told_one_arc, told_untouched, untouched_not_open}
use Rattle.ring_test.proofs.HoleLaws.{layout_misses}
use Rattle.ring_test.proofs.answers.ring.Goals as goal

pub returns-in_default-clause-answer : goal.returns-in_default-clause-answer
returns-in_default-clause-answer c = λ (h, on, is). layout_misses c.args.island.now.pieces (hole_at c.args.cell c.args.side) c.requires.within c.in_default.ensures.none h on is

pub returns-in_default-clause-parted : goal.returns-in_default-clause-parted
returns-in_default-clause-parted c two =
    untouched_not_open c.args.island.now c.args.cell c.args.side (λ (h, on, is).
    layout_misses c.args.island.now.pieces (hole_at c.args.cell c.args.side) c.requires.within c.in_default.ensures.none h on is)

pub returns-then-not-reaches_into-clause-answer : goal.returns-then-not-reaches_into-clause-answer
returns-then-not-reaches_into-clause-answer c =
    told_untouched c.island.inside.pieces c.island.inside.anchors c.args.island.now c.island.view_is (hole_of c.in-Some.hole) (hole_at c.args.cell c.args.side)
    c.in-Some.ensures.some c.reaches_into.result (rw c.as_slice-pieces.ensures at c.reaches_into.ensures) c.if-not-reaches_into.true

pub returns-then-not-reaches_into-clause-parted : goal.returns-then-not-reaches_into-clause-parted
returns-then-not-reaches_into-clause-parted c two = untouched_not_open c.args.island.now c.args.cell c.args.side
    (told_untouched c.island.inside.pieces c.island.inside.anchors c.args.island.now c.island.view_is (hole_of c.in-Some.hole) (hole_at c.args.cell c.args.side)
    c.in-Some.ensures.some c.reaches_into.result (rw c.as_slice-pieces.ensures at c.reaches_into.ensures) c.if-not-reaches_into.true)

pub returns-then-not-one_arc-clause-answer : goal.returns-then-not-one_arc-clause-answer
returns-then-not-one_arc-clause-answer c =
    told_many c.island.inside.pieces c.island.inside.anchors c.args.island.now c.island.view_is (hole_of c.in-Some.hole) (hole_at c.args.cell c.args.side)
    c.in-Some.ensures.some c.reaches_into.result (rw c.as_slice-pieces.ensures at c.reaches_into.ensures) c.if-not-reaches_into.false c.in_ok-one_arc.one_arc
    (rw c.as_slice-pieces.ensures at c.in_ok-one_arc.ensures) c.if-not-one_arc.true

pub returns-clause-answer : goal.returns-clause-answer
returns-clause-answer c = told_one_arc c.island.inside.pieces c.island.inside.anchors c.args.island.now c.island.view_is (hole_of c.in-Some.hole) (hole_at c.args.cell c.args.side)
    c.in-Some.ensures.some c.reaches_into.result (rw c.as_slice-pieces.ensures at c.reaches_into.ensures) c.if-not-reaches_into.false c.in_ok-one_arc.one_arc
    (rw c.as_slice-pieces.ensures at c.in_ok-one_arc.ensures) c.loses_any-lost.result c.if-not-one_arc.false (rw c.as_slice.ensures at c.loses_any-lost.ensures)

pub returns-clause-parted : goal.returns-clause-parted
returns-clause-parted c two =
    let anchored : IsAnchoredIsland c.args.island.now = subst IsAnchoredIsland c.island.view_is c.island.invariant in
    one_arc_settles c.args.island.now c.args.cell c.args.side c.loses_any-lost.result anchored c.requires.some two
    (told_one_arc c.island.inside.pieces c.island.inside.anchors c.args.island.now c.island.view_is (hole_of c.in-Some.hole) (hole_at c.args.cell c.args.side)
    c.in-Some.ensures.some c.reaches_into.result (rw c.as_slice-pieces.ensures at c.reaches_into.ensures) c.if-not-reaches_into.false c.in_ok-one_arc.one_arc
    (rw c.as_slice-pieces.ensures at c.in_ok-one_arc.ensures) c.loses_any-lost.result c.if-not-one_arc.false (rw c.as_slice.ensures at c.loses_any-lost.ensures))
    (c.defects_sever_islands.ensures c.args.island.now c.args.side c.args.cell anchored)
