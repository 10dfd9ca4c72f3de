use Rattle.std.proofs.Common.{refl, ap, ◌∙◌}
use Rattle.library_model.specs.declared.element.Element.TheVariants.{Reference as reference_element}
use Rattle.layout_gen.proofs.GeneratedLaws.{same_cons, with_its_parts}
use Rattle.layout_gen.specs.Generated as generated
use Rattle.layout_gen.proofs.library.top.Goals as goal

pub returns : goal.returns
returns c =
    let elements = c.in_ok-elements.ensures.items ∙ same_cons (ap reference_element c.in_ok-cell_array.ensures) refl in
    with_its_parts (generated.top c.args.columns) _ c.structure.result c.structure.ensures.at c.structure.ensures.name c.structure.ensures.elements elements
