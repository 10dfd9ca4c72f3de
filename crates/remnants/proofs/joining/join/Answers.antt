use Rattle.std.proofs.Common.{◌≡◌, ◌<◌, ◌∙◌, ◌↔◌, All, ap, length, subst, sym}
use Rattle.half_boxes.specs.declared.boxes.HalfBox.{HalfBox}
use Rattle.remnants.specs.Remnants.{RemnantLists, IsSplit}
use Rattle.remnants.specs.declared.parts.Mark.{Mark}
use Rattle.remnants.proofs.JoinLaws.{join_alike, is_joined, leaders_small, marks_small}
use Rattle.remnants.proofs.joining.join.Goals as goal

pub leaders_of-requires : goal.leaders_of-requires
leaders_of-requires c =
    let inside = c.unjoined.inside in
    rw c.deref.ensures.value (leaders_small (record { fixed = inside.fixed.items; loose = inside.loose.items; marks = inside.marks.items; terminals = inside.terminals.items }) c.unjoined.invariant)

pub moved_to-requires : goal.moved_to-requires
moved_to-requires c =
    let inside = c.unjoined.inside in
    let long : length c.deref-5.result.now ≡ length inside.fixed.items = ap length c.deref-5.ensures.value ∙ c.in_ok-leaders.ensures.one_each ∙ ap length c.deref.ensures.value in
    rw c.deref-4.ensures.value (subst (λ n. All (λ (mark : Mark). mark.leader < n) inside.marks.items) (sym long)
    (marks_small (record { fixed = inside.fixed.items; loose = inside.loose.items; marks = inside.marks.items; terminals = inside.terminals.items }) c.unjoined.invariant))

pub new-requires : goal.new-requires
new-requires c =
    let inside = c.unjoined.inside in
    is_joined (record { fixed = inside.fixed.items; loose = inside.loose.items; marks = inside.marks.items; terminals = inside.terminals.items }) c.unjoined.invariant c.in_ok-leaders.leaders.items
    (rw c.deref.ensures.value at c.in_ok-leaders.ensures) c.in_ok-led.led.items (rw (c.deref-2.ensures.value, c.deref-3.ensures.value) at c.in_ok-led.ensures)
    c.in_ok-moved.moved (rw (c.deref-4.ensures.value, c.deref-5.ensures.value) at c.in_ok-moved.ensures)

pub returns-clause-same : goal.returns-clause-same
returns-clause-same c =
    let inside = c.unjoined.inside in
    let old : RemnantLists = record { fixed = inside.fixed.items; loose = inside.loose.items; marks = inside.marks.items; terminals = inside.terminals.items } in
    let new : RemnantLists = record { fixed = c.in_ok-led.led.items; loose = inside.loose.items; marks = c.in_ok-moved.moved; terminals = inside.terminals.items } in
    let alike : (removed : HalfBox) → IsSplit new removed ↔ IsSplit old removed = join_alike old c.unjoined.invariant c.in_ok-leaders.leaders.items
    (rw c.deref.ensures.value at c.in_ok-leaders.ensures) c.in_ok-led.led.items (rw (c.deref-2.ensures.value, c.deref-3.ensures.value) at c.in_ok-led.ensures)
    c.in_ok-moved.moved (rw (c.deref-4.ensures.value, c.deref-5.ensures.value) at c.in_ok-moved.ensures) in
    subst (λ (r : RemnantLists). (removed : HalfBox) → IsSplit r removed ↔ IsSplit c.args.unjoined removed) (sym c.new.ensures)
    (subst (λ (r : RemnantLists). (removed : HalfBox) → IsSplit new removed ↔ IsSplit r removed) c.unjoined.view_is alike)
