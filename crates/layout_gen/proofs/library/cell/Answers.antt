use Rattle.std.proofs.Common.{refl, ap, ◌∙◌}
use Rattle.library_model.specs.declared.element.Element.TheVariants.{Shape as shape_element}
use Rattle.layout_gen.proofs.GeneratedLaws.{same_cons, with_its_parts}
use Rattle.layout_gen.specs.Generated as generated
use Rattle.layout_gen.proofs.library.cell.Goals as goal

pub returns : goal.returns
returns c =
    let lower_wire = ap shape_element (c.in_ok-boundary.ensures refl) in
    let upper_wire = ap shape_element (c.in_ok-boundary-2.ensures refl) in
    let cut = ap shape_element (c.in_ok-boundary-3.ensures refl) in
    let strap = ap shape_element (c.in_ok-boundary-4.ensures refl) in
    let elements = c.in_ok-elements.ensures.items ∙ same_cons lower_wire (same_cons upper_wire (same_cons cut (same_cons strap refl))) in
    with_its_parts generated.cell _ c.structure.result c.structure.ensures.at c.structure.ensures.name c.structure.ensures.elements elements
