use Rattle.std.proofs.Common.{subst}
use Rattle.half_boxes.specs.declared.boxes.HalfBox.{HalfBox}
use Rattle.remnants.specs.Remnants.{RemnantLists, IsSplit, IsLooseWithin}
use Rattle.remnants.proofs.MarkLaws.{unmarked_split}
use Rattle.remnants.proofs.remnant.Remnant.is_seen_whole.Goals as goal

pub returns : goal.returns
returns c = λ yes.
    let inside = c.self.inside in
    let old : RemnantLists = record { fixed = inside.fixed.items; loose = inside.loose.items; marks = inside.marks; terminals = inside.terminals.items } in
    let shared = rw c.deref.ensures.value at (c.have_one_leader.ensures yes) in
    subst (λ (r : RemnantLists). (removed : HalfBox) → IsLooseWithin r removed → IsSplit r removed → ⊥) c.self.view_is
    (λ removed within split. shared ((unmarked_split old c.self.invariant removed within).1 split))
