use Rattle.std.proofs.Common.{◌<◌, ◌↔◌, All, subst, sym}
use Rattle.half_boxes.specs.declared.boxes.HalfBox.{HalfBox}
use Rattle.remnants.specs.Remnants.{RemnantLists, IsLooseWithin, IsSplit}
use Rattle.remnants.specs.declared.parts.Fixed.{Fixed}
use Rattle.remnants.specs.declared.parts.Mark.{Mark}
use Rattle.remnants.proofs.JoinLaws.{leaders_small, marks_small}
use Rattle.remnants.proofs.KeepLaws.{kept_joined, kept_alike}
use Rattle.remnants.proofs.PlaceLaws.{places_small}
use Rattle.remnants.proofs.remnant.Remnant.keep.Goals as goal

pub kept_at-requires : goal.kept_at-requires
kept_at-requires c =
    let inside = c.self.inside in
    let old : RemnantLists = record { fixed = inside.fixed.items; loose = inside.loose.items; marks = inside.marks; terminals = inside.terminals.items } in
    let are = rw c.deref.ensures.value at c.in_ok-found.ensures in
    rw (c.deref-2.ensures.value, c.deref-3.ensures.value, c.deref-4.ensures.value) (record {
      places = places_small c.args.outer inside.fixed.items c.in_ok-found.found.places.items c.in_ok-found.found.numbers.items are;
      leaders = subst (λ n. All (λ (one : Fixed). one.leader < n) inside.fixed.items) (sym are.one_each) (leaders_small old c.self.invariant.leaders);
    })

pub moved_to-requires : goal.moved_to-requires
moved_to-requires c =
    let inside = c.self.inside in
    let old : RemnantLists = record { fixed = inside.fixed.items; loose = inside.loose.items; marks = inside.marks; terminals = inside.terminals.items } in
    let are = rw c.deref.ensures.value at c.in_ok-found.ensures in
    rw (c.as_slice.ensures, c.deref-5.ensures.value) (subst (λ n. All (λ (mark : Mark). mark.leader < n) inside.marks) (sym are.one_each) (marks_small old c.self.invariant.leaders))

pub new-requires : goal.new-requires
new-requires c =
    let inside = c.self.inside in
    let old : RemnantLists = record { fixed = inside.fixed.items; loose = inside.loose.items; marks = inside.marks; terminals = inside.terminals.items } in
    let within : IsLooseWithin old c.args.outer = subst (λ (r : RemnantLists). IsLooseWithin r c.args.outer) (sym c.self.view_is) c.requires in
    kept_joined old c.self.invariant c.args.outer within c.in_ok-found.found.places.items c.in_ok-found.found.numbers.items
    (rw c.deref.ensures.value at c.in_ok-found.ensures) c.in_ok-kept.kept.items
    (rw (c.deref-2.ensures.value, c.deref-3.ensures.value, c.deref-4.ensures.value) at c.in_ok-kept.ensures) c.in_ok-moved.moved
    (rw (c.as_slice.ensures, c.deref-5.ensures.value) at c.in_ok-moved.ensures)

pub returns-clause-same : goal.returns-clause-same
returns-clause-same c =
    let inside = c.self.inside in
    let old : RemnantLists = record { fixed = inside.fixed.items; loose = inside.loose.items; marks = inside.marks; terminals = inside.terminals.items } in
    let new : RemnantLists = record { fixed = c.in_ok-kept.kept.items; loose = inside.loose.items; marks = c.in_ok-moved.moved; terminals = inside.terminals.items } in
    let within : IsLooseWithin old c.args.outer = subst (λ (r : RemnantLists). IsLooseWithin r c.args.outer) (sym c.self.view_is) c.requires in
    let alike : (removed : HalfBox) → IsSplit new removed ↔ IsSplit old removed =
    kept_alike old c.self.invariant c.args.outer within c.in_ok-found.found.places.items c.in_ok-found.found.numbers.items (rw c.deref.ensures.value at c.in_ok-found.ensures) c.in_ok-kept.kept.items
    (rw (c.deref-2.ensures.value, c.deref-3.ensures.value, c.deref-4.ensures.value) at c.in_ok-kept.ensures) c.in_ok-moved.moved
    (rw (c.as_slice.ensures, c.deref-5.ensures.value) at c.in_ok-moved.ensures) in
    subst (λ (r : RemnantLists). (removed : HalfBox) → IsSplit r removed ↔ IsSplit c.args.self removed) (sym c.new.ensures)
    (subst (λ (r : RemnantLists). (removed : HalfBox) → IsSplit new removed ↔ IsSplit r removed) c.self.view_is alike)
