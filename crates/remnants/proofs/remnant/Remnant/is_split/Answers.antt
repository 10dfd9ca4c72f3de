use Rattle.std.proofs.Common.{◌↔◌, IsTrue, subst}
use Rattle.half_boxes.specs.declared.boxes.HalfBox.{HalfBox}
use Rattle.remnants.specs.Remnants.{RemnantLists, IsSplit, IsLooseWithin}
use Rattle.remnants.proofs.MarkLaws.{unmarked_split}
use Rattle.remnants.proofs.remnant.Remnant.is_split.Goals as goal

pub returns : goal.returns
returns c =
    let inside = c.self.inside in
    let old : RemnantLists = record { fixed = inside.fixed.items; loose = inside.loose.items; marks = inside.marks; terminals = inside.terminals.items } in
    let is = rw c.deref.ensures.value at c.are_unmarked.ensures in
    subst (λ (r : RemnantLists). (removed : HalfBox) → IsLooseWithin r removed → IsTrue c.are_unmarked.result ↔ IsSplit r removed) c.self.view_is
    (λ removed within. let u = unmarked_split old c.self.invariant removed within in (λ t. u.0 (is.0 t), λ s. is.1 (u.1 s)))
