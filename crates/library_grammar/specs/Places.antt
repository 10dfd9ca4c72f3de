-- Which records may follow, one at a time, as a reader decides it: where it stands in a library. What may stand is said by
-- MayStand, of lists as a whole, and that the two agree is a law.
use Rattle.std.specs.Prelude.{ℕ, ◌≢◌, Bool, not, ◌&&◌, if◌then◌else◌, List, [], ◌∷◌, ◌++◌, Option, Some, None, option_map, option_and_then}
use Rattle.std.specs.Prelude.{find, ◌==◌}
use Rattle.lists.specs.Words.{list_any}
use Rattle.gds_records.specs.declared.kinds.TheConstants as kind
use Rattle.library_grammar.specs.ElementForms.{ElementForm, element_forms, own_kinds}
use Rattle.library_grammar.specs.Grammar.{head_kinds}

-- before HEADER, before BGNLIB, in the head before LIBNAME and before UNITS, between structures, before STRNAME, behind STRNAME,
-- between elements, among the own records of an element of which it has these kinds behind it, behind PROPATTR, behind PROPVALUE, and
-- behind ENDLIB
pub data Place : Type 0 where
  before_header : Place
  before_bgnlib : Place
  before_name : Place
  before_units : Place
  between_structures : Place
  before_strname : Place
  behind_strname : Place
  between_elements : Place
  among_own : ElementForm → List ℕ → Place
  behind_attribute : Place
  behind_property : Place
  behind_endlib : Place

-- the list has the kind
abbrev pub has_kind : List ℕ → ℕ → Bool
has_kind kinds k = list_any (λ other. other == k) kinds

-- the form of the element that a record of this kind opens
abbrev pub form_of : ℕ → Option ElementForm
form_of k = find (λ form. form.opening == k) element_forms

-- into an element, or out of the structure
abbrev pub into_element : ℕ → Option Place
into_element k = if k == kind.ENDSTR then Some between_structures else option_map (λ form. among_own form []) (form_of k)

-- to the next property, or out of the element
abbrev pub out_of_element : ℕ → Option Place
out_of_element k =
    if k == kind.PROPATTR then Some behind_attribute else if k == kind.ENDEL then Some between_elements else None

-- where a reader stands behind a record of this kind, if one may follow
abbrev pub next_place : Place → ℕ → Option Place
next_place before_header k = if k == kind.HEADER then Some before_bgnlib else None
next_place before_bgnlib k = if k == kind.BGNLIB then Some before_name else None
next_place before_name k =
    if k == kind.LIBNAME then Some before_units else if has_kind head_kinds k then Some before_name else None
next_place before_units k =
    if k == kind.UNITS then Some between_structures else if has_kind head_kinds k then Some before_units else None
next_place between_structures k =
    if k == kind.BGNSTR then Some before_strname else if k == kind.ENDLIB then Some behind_endlib else None
next_place before_strname k = if k == kind.STRNAME then Some behind_strname else None
next_place behind_strname k = if k == kind.STRCLASS then Some between_elements else into_element k
next_place between_elements k = into_element k
next_place (among_own form own) k =
    if has_kind (own_kinds form) k && not (has_kind own k) then Some (among_own form (own ++ k ∷ [])) else out_of_element k
next_place behind_attribute k = if k == kind.PROPVALUE then Some behind_property else None
next_place behind_property k = out_of_element k
next_place behind_endlib k = None

-- where a reader stands behind records of these kinds, if each of them may follow
abbrev pub place_behind : Place → List ℕ → Option Place
place_behind place [] = Some place
place_behind place (k ∷ kinds) = option_and_then (λ next. place_behind next kinds) (next_place place k)

-- a record of this kind names no structure and ends no own records
pub record IsPlain (k : ℕ) : Type 0 where
  pub names_nothing : k ≢ kind.STRNAME
  pub is_no_attribute : k ≢ kind.PROPATTR
  pub is_no_end : k ≢ kind.ENDEL
