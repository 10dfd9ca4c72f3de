-- elements by the records that open them
use Rattle.library_grammar.specs.GrammarNames.{ElementForm, boundary_form, path_form, sref_form, aref_form, text_form, node_form, box_form}
use Rattle.gds_syntax.specs.declared.element_kind.ElementKind.{ElementKind}
use Rattle.gds_syntax.specs.declared.element_kind.ElementKind.TheVariants.{Boundary, Path, Sref, Aref, Text, Node, BoxElement}

-- the form of the element
abbrev pub form_for : ElementKind → ElementForm
form_for Boundary = boundary_form
form_for Path = path_form
form_for Sref = sref_form
form_for Aref = aref_form
form_for Text = text_form
form_for Node = node_form
form_for BoxElement = box_form
