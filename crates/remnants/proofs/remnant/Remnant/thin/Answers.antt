use Rattle.std.proofs.Common.{◌↔◌, subst, sym}
use Rattle.half_boxes.specs.declared.boxes.HalfBox.{HalfBox}
use Rattle.lists.proofs.Words.{IfOk-weaker}
use Rattle.remnants.specs.Remnants.{RemnantLists, IsSplit, IsLooseWithin}
use Rattle.remnants.specs.inside.Thinning.{HasLooseBox}
use Rattle.remnants.proofs.SpreadLaws.{stands_still}
use Rattle.remnants.proofs.ThinLaws.{still_joined, thinned_alike}
use Rattle.remnants.proofs.remnant.Remnant.thin.Goals as goal

pub new-fewer-requires : goal.new-fewer-requires
new-fewer-requires c =
    let inside = c.self.inside in
    let old : RemnantLists = record { fixed = inside.fixed.items; loose = inside.loose.items; marks = inside.marks; terminals = inside.terminals.items } in
    still_joined old c.of-gone.result c.in_ok-marks.marks c.in_ok-terminals.terminals.items c.in_ok-marks.ensures (rw c.deref-3.ensures.value at c.in_ok-terminals.ensures) c.self.invariant

pub returns-clause-same : goal.returns-clause-same
returns-clause-same c =
    let inside = c.self.inside in
    let old : RemnantLists = record { fixed = inside.fixed.items; loose = inside.loose.items; marks = inside.marks; terminals = inside.terminals.items } in
    let new : RemnantLists = record { fixed = inside.fixed.items; loose = inside.loose.items; marks = c.in_ok-marks.marks; terminals = c.in_ok-terminals.terminals.items } in
    let gone = c.in_ok-gone.gone.items in
    let still = c.of-gone.ensures in
    let stood = rw (c.deref.ensures.value, c.deref-2.ensures.value) at c.in_ok-gone.ensures in
    let alike : (removed : HalfBox) → IsSplit new removed ↔ IsSplit old removed = λ removed.
    thinned_alike old c.of-gone.result c.in_ok-marks.marks c.in_ok-terminals.terminals.items c.in_ok-marks.ensures
    (rw c.deref-3.ensures.value at c.in_ok-terminals.ensures) removed c.self.invariant
    (λ terminal went. stands_still inside.terminals.items inside.terminals.items (HasLooseBox inside.loose.items) (HasLooseBox inside.loose.items) inside.marks c.of-gone.result gone terminal
    (λ t h. h) (λ t h. h) (λ t h. (still t).0 h) (stood terminal ((still terminal).0 went))) in
    let fewer : (removed : HalfBox) → IsSplit c.new-fewer.result removed ↔ IsSplit c.args.self removed =
    subst (λ (r : RemnantLists). (removed : HalfBox) → IsSplit r removed ↔ IsSplit c.args.self removed) (sym c.new-fewer.ensures)
    (subst (λ (r : RemnantLists). (removed : HalfBox) → IsSplit new removed ↔ IsSplit r removed) c.self.view_is alike) in
    IfOk-weaker c.release.result (λ (released : RemnantLists). (removed : HalfBox) → IsSplit released removed ↔ IsSplit c.new-fewer.result removed)
    (λ (thinned : RemnantLists). (removed : HalfBox) → IsSplit thinned removed ↔ IsSplit c.args.self removed)
    (λ (thinned : RemnantLists) same removed. (λ s. (fewer removed).0 ((same removed).0 s), λ s. (same removed).1 ((fewer removed).1 s))) c.release.ensures.same

pub returns-clause-within : goal.returns-clause-within
returns-clause-within c =
    IfOk-weaker c.release.result (λ (released : RemnantLists). (outer : HalfBox) → IsLooseWithin c.new-fewer.result outer → IsLooseWithin released outer)
    (λ (thinned : RemnantLists). (outer : HalfBox) → IsLooseWithin c.args.self outer → IsLooseWithin thinned outer)
    (λ (thinned : RemnantLists) still outer within.
    still outer (subst (λ (r : RemnantLists). IsLooseWithin r outer) (sym c.new-fewer.ensures) (subst (λ (r : RemnantLists). IsLooseWithin r outer) (sym c.self.view_is) within)))
    c.release.ensures.within
