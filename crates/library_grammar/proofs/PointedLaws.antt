-- The shape of an element whose checks hold has its points.
use Rattle.std.proofs.Common.{◌≡◌, ℕ, List, refl, subst, Option, arith, length, ◌≤◌, All, IfSome}
use Rattle.gds_records.specs.declared.kinds.TheConstants as kind
use Rattle.library_grammar.specs.GrammarNames.{Entry, ElementHolds, element_checks, is_closed, ElementForm, Opens, boundary_form, path_form, box_form, IsKept, boundary, path, box, points_of, IsWellPointed, IsOutline}
use Rattle.library_model.specs.declared.element.Element.{Element}
use Rattle.library_grammar.proofs.PartsAgree.{forms_agree}

-- the one form that each of these opens
boundary_opens : (form : ElementForm) → Opens kind.BOUNDARY form → form ≡ boundary_form
boundary_opens form opens = forms_agree kind.BOUNDARY form boundary_form opens (record { listed = (0, omega arith, refl); opening = refl })

path_opens : (form : ElementForm) → Opens kind.PATH form → form ≡ path_form
path_opens form opens = forms_agree kind.PATH form path_form opens (record { listed = (1, omega arith, refl); opening = refl })

box_opens : (form : ElementForm) → Opens kind.BOX form → form ≡ box_form
box_opens form opens = forms_agree kind.BOX form box_form opens (record { listed = (6, omega arith, refl); opening = refl })

-- what is kept of an element whose checks hold
pub kept_is_pointed : (at : ℕ) (own : List Entry) (k : ℕ) (kept : Option Element) (form : ElementForm) → Opens k form → All (ElementHolds own) (element_checks form)
    → IsKept at own k kept → IfSome kept IsWellPointed
kept_is_pointed at own _ _ form opens sound (boundary is) =
    let holds = subst (λ (f : ElementForm). All (ElementHolds own) (element_checks f)) (boundary_opens form opens) sound in
    let outline : IsOutline (points_of own) = record { count = holds 3 is_closed (omega arith); closed = holds 4 is_closed (omega arith) } in
    rw (is.is_kind, is.has_points) outline
kept_is_pointed at own _ _ form opens sound (path is) =
    let holds = subst (λ (f : ElementForm). All (ElementHolds own) (element_checks f)) (path_opens form opens) sound in
    let some : 1 ≤ length (points_of own) = holds 3 is_closed (omega arith) in
    rw (is.is_kind, is.has_points) some
kept_is_pointed at own _ _ form opens sound (box is) =
    let holds = subst (λ (f : ElementForm). All (ElementHolds own) (element_checks f)) (box_opens form opens) sound in
    let outline : IsOutline (points_of own) = record { count = holds 3 is_closed (omega arith); closed = holds 4 is_closed (omega arith) } in
    rw (is.is_kind, is.has_points) outline
kept_is_pointed at own _ _ form opens sound _ = tt
