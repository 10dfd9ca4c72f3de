-- What may stand behind records is what their place says: each place has a way to the end, and a list in shape stops nowhere.
-- The place among own records says which element it is.
use Rattle.std.proofs.Common.{map, ◌≡◌, ℕ, Bool, true, false, not, ◌&&◌, ◌==◌, ◌↔◌, List, [], ◌∷◌, ◌++◌, Option, Some, None, IsSome, option_and_then, refl, sym, ap, ◌∙◌, All, Contains, append_assoc}
use Rattle.lists.proofs.Words.{list_any-append, or-true, map-append, All-map}
use Rattle.std.proofs.Math.Bool.{and-false}
use Rattle.gds_records.specs.declared.kinds.TheConstants as kind
use Rattle.library_grammar.specs.GrammarNames.{Entry, ElementForm, own_kinds, kinds_of, MayStand, Place, before_header, before_bgnlib, before_name, before_units, between_structures, before_strname}
use Rattle.library_grammar.specs.GrammarNames.{behind_strname, between_elements, among_own, behind_attribute, behind_property, behind_endlib, has_kind, next_place, place_behind, Opens}
use Rattle.library_grammar.proofs.PlaceRuns.{LeadTo, step, place_behind-append, end_of_shape}
use Rattle.library_grammar.proofs.PlaceEndings.{in_shape_of_end}
use Rattle.library_grammar.proofs.OwnPlaces.{behind_of_form, opening_leads, own_run_leads, way_in_parts, way_in_steps, lists_agree, same_length}

-- ---- a way to the end

-- a record of this kind, whatever its data
abbrev some_entry : ℕ → Entry
some_entry k = record { kind = k; form = 0; body = [] }

-- Some records lead from the place to the end.
abbrev WayOut : Place → Type 0
WayOut p = (entries : List Entry) × LeadTo p entries behind_endlib

-- a record, and a way to the end behind it
way_behind : (p q : Place) (k : ℕ) → next_place p k ≡ Some q → WayOut q → WayOut p
way_behind p q k e way = (some_entry k ∷ way.0, step p q k (kinds_of way.0) e ∙ way.1)

out_of_structure : WayOut between_elements
out_of_structure = (map some_entry (kind.ENDSTR ∷ kind.ENDLIB ∷ []), refl)

-- Where ENDEL cannot be one more of an element's own records, it leads out of the element.
closes : (form : ElementForm) (own : List ℕ) → (has_kind (own_kinds form) kind.ENDEL && not (has_kind own kind.ENDEL)) ≡ false → WayOut (among_own form own)
closes form own test = way_behind (among_own form own) between_elements kind.ENDEL (rw test) out_of_structure

-- That no form has ENDEL as an own record need not be known here: as one it would stand only once.
out_of_own : (form : ElementForm) (own : List ℕ) → WayOut (among_own form own)
out_of_own form own = go (has_kind (own_kinds form) kind.ENDEL && not (has_kind own kind.ENDEL)) refl
  where
    twice : (has_kind (own_kinds form) kind.ENDEL && not (has_kind (own ++ kind.ENDEL ∷ []) kind.ENDEL)) ≡ false
    twice = simp (list_any-append (λ other. other == kind.ENDEL) own (kind.ENDEL ∷ []), or-true, and-false)

    go : (b : Bool) → (has_kind (own_kinds form) kind.ENDEL && not (has_kind own kind.ENDEL)) ≡ b → WayOut (among_own form own)
    go true test = way_behind (among_own form own) (among_own form (own ++ kind.ENDEL ∷ [])) kind.ENDEL (rw test) (closes form (own ++ kind.ENDEL ∷ []) twice)
    go false test = closes form own test

way_out : (p : Place) → WayOut p
way_out before_header = (map some_entry (kind.HEADER ∷ kind.BGNLIB ∷ kind.LIBNAME ∷ kind.UNITS ∷ kind.ENDLIB ∷ []), refl)
way_out before_bgnlib = (map some_entry (kind.BGNLIB ∷ kind.LIBNAME ∷ kind.UNITS ∷ kind.ENDLIB ∷ []), refl)
way_out before_name = (map some_entry (kind.LIBNAME ∷ kind.UNITS ∷ kind.ENDLIB ∷ []), refl)
way_out before_units = (map some_entry (kind.UNITS ∷ kind.ENDLIB ∷ []), refl)
way_out between_structures = (map some_entry (kind.ENDLIB ∷ []), refl)
way_out before_strname = (map some_entry (kind.STRNAME ∷ kind.ENDSTR ∷ kind.ENDLIB ∷ []), refl)
way_out behind_strname = (map some_entry (kind.ENDSTR ∷ kind.ENDLIB ∷ []), refl)
way_out between_elements = out_of_structure
way_out (among_own form own) = out_of_own form own
way_out behind_attribute = (map some_entry (kind.PROPVALUE ∷ kind.ENDEL ∷ kind.ENDSTR ∷ kind.ENDLIB ∷ []), refl)
way_out behind_property = (map some_entry (kind.ENDEL ∷ kind.ENDSTR ∷ kind.ENDLIB ∷ []), refl)
way_out behind_endlib = ([], refl)

-- ---- what may stand

-- the place behind records, one more, and others
pub place_further : (before : List Entry) (e : Entry) (after : List Entry) (p : Place) → LeadTo before_header before p
    → place_behind before_header (kinds_of (before ++ e ∷ after)) ≡ option_and_then (λ next. place_behind next (kinds_of after)) (next_place p e.kind)
place_further before e after p h =
    ap (place_behind before_header) (map-append (λ (x : Entry). x.kind) before (e ∷ after)) ∙ place_behind-append before_header (kinds_of before) (e.kind ∷ kinds_of after)
    ∙ ap (λ (o : Option Place). option_and_then (λ q. place_behind q (e.kind ∷ kinds_of after)) o) h

-- a record may stand where its place has a next one for it
pub may_stand : (before : List Entry) (e : Entry) (p q : Place) → LeadTo before_header before p → next_place p e.kind ≡ Some q → MayStand before e
may_stand before e p q here next =
    let way = way_out q in
    record {
      after = way.0;
      in_shape = in_shape_of_end (before ++ e ∷ way.0) (place_further before e way.0 p here ∙ step p q e.kind (kinds_of way.0) next ∙ way.1);
    }

-- a record may not stand where its place has no next one for it
pub may_not_stand : (before : List Entry) (e : Entry) (p : Place) → LeadTo before_header before p → next_place p e.kind ≡ None → MayStand before e → ⊥
may_not_stand before e p here none m =
    let stops : ◌≡◌ {A = Option Place} None (Some behind_endlib) =
    ap (λ (o : Option Place). option_and_then (λ next. place_behind next (kinds_of m.after)) o) (sym none)
    ∙ sym (place_further before e m.after p here)
    ∙ end_of_shape (before ++ e ∷ m.after) m.in_shape
    in
    cc

-- both together
pub may_stand_where_next : (before : List Entry) (e : Entry) (p : Place) → LeadTo before_header before p → MayStand before e ↔ IsSome (next_place p e.kind)
may_stand_where_next before e p here = go (next_place p e.kind) refl
  where
    go : (o : Option Place) → next_place p e.kind ≡ o → MayStand before e ↔ IsSome o
    go None none = (λ m. absurd (may_not_stand before e p here none m), λ some. absurd (cc))
    go (Some q) next = (λ m. refl, λ some. may_stand before e p q here next)

-- behind the record that opens an element and own records of it a reader stands among these
pub own_place : (earlier own : List Entry) (opening : Entry) (form : ElementForm) (p : Place) → Opens opening.kind form
    → All (λ e. Contains (own_kinds form) e.kind) own → place_behind before_header (kinds_of (earlier ++ opening ∷ own)) ≡ Some p
    → p ≡ among_own form (kinds_of own)
own_place earlier own opening form p opens are_own h =
    let along : place_behind before_header (kinds_of earlier ++ opening.kind ∷ kinds_of own) ≡ Some p =
    ap (place_behind before_header) (sym (map-append (λ (e : Entry). e.kind) earlier (opening ∷ own))) ∙ h
    in
    let way = way_in_parts before_header p (kinds_of earlier) (opening.kind ∷ kinds_of own) along in
    let next = way_in_steps way.0 p opening.kind (kinds_of own) way.2 in
    let good = behind_of_form (kinds_of earlier) before_header way.0 tt way.1 in
    let first : next.0 ≡ among_own form [] = opening_leads way.0 next.0 form opens.listed good (ap (next_place way.0) (sym opens.opening) ∙ next.1) in
    own_run_leads form (kinds_of own) [] p opens.listed (All-map (Contains (own_kinds form)) (λ (e : Entry). e.kind) own are_own)
    (ap (λ (q : Place). place_behind q (kinds_of own)) (sym first) ∙ next.2)

-- where a reader stands among own records, the records behind it are those of one element alone
pub own_agree : (before own earlier other : List Entry) (opening : Entry) (form form' : ElementForm)
    → place_behind before_header (kinds_of (before ++ own)) ≡ Some (among_own form (kinds_of own)) → before ++ own ≡ earlier ++ opening ∷ other
    → Opens opening.kind form' → All (λ e. Contains (own_kinds form') e.kind) other → (form ≡ form') × (own ≡ other)
own_agree before own earlier other opening form form' here parts opens are_own =
    let place : among_own form (kinds_of own) ≡ among_own form' (kinds_of other) =
    own_place earlier other opening form' (among_own form (kinds_of own)) opens are_own (ap (λ (es : List Entry). place_behind before_header (kinds_of es)) (sym parts) ∙ here)
    in
    let forms : form ≡ form' = cc in
    let kinds : kinds_of own ≡ kinds_of other = cc in
    let apart : before ++ own ≡ (earlier ++ opening ∷ []) ++ other = parts ∙ sym (append_assoc earlier (opening ∷ []) other) in
    (forms, (lists_agree before (earlier ++ opening ∷ []) own other (same_length own other kinds) apart).1)
