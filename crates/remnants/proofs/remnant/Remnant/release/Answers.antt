use Rattle.std.proofs.Common.{ℕ, List, Contains, ◌↔◌, subst, sym}
use Rattle.half_boxes.specs.declared.boxes.HalfBox.{HalfBox}
use Rattle.remnants.specs.Remnants.{RemnantLists, IsLooseWithin, IsSplit}
use Rattle.remnants.proofs.ReleaseLaws.{released_alike, released_joined, released_within}
use Rattle.remnants.proofs.SettleLaws.{with_other}
use Rattle.remnants.proofs.remnant.Remnant.release.Goals as goal

pub new-requires : goal.new-requires
new-requires c =
    let inside = c.self.inside in
    let old : RemnantLists = record { fixed = inside.fixed.items; loose = inside.loose.items; marks = inside.marks; terminals = inside.terminals.items } in
    released_joined old c.of-listed.result c.in_ok-loose.loose.items (rw c.deref-2.ensures.value at c.in_ok-loose.ensures)
    (λ t h. (c.of-listed.ensures t).1 (subst (λ (ts : List ℕ). Contains ts t) (sym (rw c.deref.ensures.value at c.in_ok-from_slice.ensures.items)) h)) c.self.invariant

pub returns-clause-same : goal.returns-clause-same
returns-clause-same c =
    let inside = c.self.inside in
    let old : RemnantLists = record { fixed = inside.fixed.items; loose = inside.loose.items; marks = inside.marks; terminals = inside.terminals.items } in
    let new : RemnantLists = with_other old c.in_ok-loose.loose.items in
    let alike : (removed : HalfBox) → IsSplit new removed ↔ IsSplit old removed =
    released_alike old c.of-listed.result c.in_ok-loose.loose.items (rw c.deref-2.ensures.value at c.in_ok-loose.ensures)
    (λ t h. (c.of-listed.ensures t).1 (subst (λ (ts : List ℕ). Contains ts t) (sym (rw c.deref.ensures.value at c.in_ok-from_slice.ensures.items)) h)) in
    subst (λ (r : RemnantLists). (removed : HalfBox) → IsSplit r removed ↔ IsSplit c.args.self removed) (sym c.new.ensures)
    (subst (λ (r : RemnantLists). (removed : HalfBox) → IsSplit new removed ↔ IsSplit r removed) c.self.view_is alike)

pub returns-clause-within : goal.returns-clause-within
returns-clause-within c =
    let inside = c.self.inside in
    let old : RemnantLists = record { fixed = inside.fixed.items; loose = inside.loose.items; marks = inside.marks; terminals = inside.terminals.items } in
    λ outer within. subst (λ (r : RemnantLists). IsLooseWithin r outer) (sym c.new.ensures)
    (released_within old c.of-listed.result c.in_ok-loose.loose.items (rw c.deref-2.ensures.value at c.in_ok-loose.ensures)
    (λ t h. (c.of-listed.ensures t).1 (subst (λ (ts : List ℕ). Contains ts t) (sym (rw c.deref.ensures.value at c.in_ok-from_slice.ensures.items)) h)) outer
    (subst (λ (r : RemnantLists). IsLooseWithin r outer) (sym c.self.view_is) within))
