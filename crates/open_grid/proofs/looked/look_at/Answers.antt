use Rattle.std.proofs.Common.{refl, sym, ◌∙◌}
use Rattle.lists.proofs.Words.{false≢true}
use Rattle.open_grid.proofs.ToldLaws.{outer_has_inner, told_always, told_at_once, told_never, told_open}
use Rattle.open_grid.proofs.looked.look_at.Goals as goal

pub returns-then-split-clause-told : goal.returns-then-split-clause-told
returns-then-split-clause-told c = λ island stands.
    told_at_once c.args.zone c.args.side c.args.looked.now island stands c.reach_of-outer.result c.reach_of-outer.ensures c.boxes_and_defects_sever.ensures.defects
    (c.in_ok-split.ensures.0 c.if-split.true) (c.is_single.ensures.0 c.if-is_single.true)

pub returns-then-is_single-clause-told : goal.returns-then-is_single-clause-told
returns-then-is_single-clause-told c = λ island stands.
    told_never c.args.zone c.args.side c.args.looked.now island stands c.reach_of-outer.result c.reach_of-outer.ensures c.boxes_and_defects_sever.ensures.boxes
    (λ split. false≢true (sym c.if-split.false ∙ c.in_ok-split.ensures.1 split))

pub returns-in_default-clause-told : goal.returns-in_default-clause-told
returns-in_default-clause-told c = λ island stands.
    let answer = rw c.in_default.is at c.in_ok-narrowed.ensures.split in
    let has_inner = outer_has_inner c.args.zone c.args.side c.args.looked.now island stands c.reach_of-outer.result c.reach_of-outer.ensures c.core_of-inner.result c.core_of-inner.ensures in
    told_never c.args.zone c.args.side c.args.looked.now island stands c.reach_of-outer.result c.reach_of-outer.ensures c.boxes_and_defects_sever.ensures.boxes
    (λ split. false≢true ((answer has_inner).1 split))

pub returns-then-branch-clause-told : goal.returns-then-branch-clause-told
returns-then-branch-clause-told c = λ island stands.
    told_always c.args.zone c.args.side c.args.looked.now island stands c.reach_of-outer.result c.reach_of-outer.ensures c.core_of-inner.result c.core_of-inner.ensures c.in-Some.remnant
    (rw c.in-Some.is at c.in_ok-narrowed.ensures.same) c.boxes_and_defects_sever.ensures.defects (c.in_ok-is_split_without.ensures c.if-branch.true)

pub returns-clause-told : goal.returns-clause-told
returns-clause-told c = λ island stands.
    told_open c.args.zone c.args.side c.args.looked.now island stands c.reach_of-outer.result c.reach_of-outer.ensures c.core_of-inner.result c.core_of-inner.ensures c.in-Some.remnant
    (rw c.in-Some.is at c.in_ok-narrowed.ensures.same) c.in_ok-near.near (rw c.as_slice.ensures at c.in_ok-near.ensures.near) (rw c.as_slice.ensures at c.in_ok-near.ensures.of_near)
    c.in_ok-anchors.anchors (rw c.as_slice-2.ensures at c.in_ok-anchors.ensures)
    (record { remnant = c.in-Some.remnant; near = c.in_ok-near.near; anchors = c.in_ok-anchors.anchors }) refl refl refl

pub returns-clause-at_once : goal.returns-clause-at_once
returns-clause-at_once c = λ single. false≢true (sym c.if-is_single.false ∙ c.is_single.ensures.1 single)
