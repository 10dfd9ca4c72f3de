-- Where no record of a whole stream shows a fault, its records are in shape.
use Rattle.std.proofs.Common.{◌≡◌, ℕ, false, List, [], ◌∷◌, ◌++◌, Option, Some, None, refl, sym, ap, subst, ◌∙◌, append_assoc}
use Rattle.lists.proofs.Words.{append-nil, map-append}
use Rattle.gds_records.specs.declared.kinds.TheConstants as kind
use Rattle.library_grammar.specs.GrammarNames.{Entry, EndsWithEndlib, own_kinds, NoneShows, behind, Place, before_header, between_structures, among_own, behind_endlib, has_kind, next_place}
use Rattle.library_grammar.specs.GrammarNames.{place_behind, kinds_of, IsInShape}
use Rattle.library_grammar.specs.FirstFault.{may_not_stand as shows_unexpected}
use Rattle.library_grammar.specs.declared.fault.SyntaxFault.TheVariants.{Unexpected}
use Rattle.library_grammar.proofs.laws.Places.{may_not_stand, place_further}
use Rattle.library_grammar.proofs.OwnPlaces.{IsOfForm, behind_of_form, way_in_parts, way_in_steps}
use Rattle.library_grammar.proofs.laws.Forms.{each_form}
use Rattle.library_grammar.proofs.PlaceEndings.{in_shape_of_end}

-- records of which none shows a fault lead on from where those before them lead
leads_on : (before rest : List Entry) (p : Place) → place_behind before_header (kinds_of before) ≡ Some p → NoneShows (before ++ rest)
    → (q : Place) × (place_behind before_header (kinds_of (before ++ rest)) ≡ Some q)
leads_on before [] p here none = (p, rw (append-nil before) here)
leads_on before (e ∷ rest) p here none = go (next_place p e.kind) refl (leads_on (before ++ e ∷ []) rest)
  where
    go : (o : Option Place) → next_place p e.kind ≡ o
        → ((q : Place) → place_behind before_header (kinds_of (before ++ e ∷ [])) ≡ Some q → NoneShows ((before ++ e ∷ []) ++ rest)
        → (r : Place) × (place_behind before_header (kinds_of ((before ++ e ∷ []) ++ rest)) ≡ Some r))
        → (r : Place) × (place_behind before_header (kinds_of (before ++ e ∷ rest)) ≡ Some r)
    go None stop further =
        absurd (none before rest e (Unexpected (behind 0 before) e.kind) refl (shows_unexpected (may_not_stand before e p here stop)))
    go (Some q) next further =
        let one : place_behind before_header (kinds_of (before ++ e ∷ [])) ≡ Some q = place_further before e [] p here ∙ rw next refl in
        let same = append_assoc before (e ∷ []) rest in
        let found = further q one (subst NoneShows (sym same) none) in
        (found.0, ap (λ (es : List Entry). place_behind before_header (kinds_of es)) (sym same) ∙ found.1)

-- ENDLIB leads behind the end alone
endlib_ends : (p q : Place) → IsOfForm p → next_place p kind.ENDLIB ≡ Some q → q ≡ behind_endlib
endlib_ends between_structures q good h = let same : behind_endlib ≡ q = cc in sym same
endlib_ends (among_own form own) q good h =
    let lacks = each_form (λ f. has_kind (own_kinds f) kind.ENDLIB ≡ false) refl refl refl refl refl refl refl form good in
    let none : next_place (among_own form own) kind.ENDLIB ≡ None = rw lacks refl in
    absurd (cc)
endlib_ends _ q good h = absurd (cc)

pub in_shape : (entries : List Entry) → NoneShows entries → EndsWithEndlib entries → IsInShape entries
in_shape entries none ends =
    let found = leads_on [] entries before_header refl none in
    let kinds : kinds_of entries ≡ kinds_of ends.before ++ kind.ENDLIB ∷ [] =
    ap kinds_of ends.parts ∙ map-append (λ (x : Entry). x.kind) ends.before (ends.last ∷ []) ∙ ap (λ (k : ℕ). kinds_of ends.before ++ k ∷ []) ends.is_endlib
    in
    let way = way_in_parts before_header found.0 (kinds_of ends.before) (kind.ENDLIB ∷ []) (ap (place_behind before_header) (sym kinds) ∙ found.1) in
    let last = way_in_steps way.0 found.0 kind.ENDLIB [] way.2 in
    let end : last.0 ≡ behind_endlib = endlib_ends way.0 last.0 (behind_of_form (kinds_of ends.before) before_header way.0 tt way.1) last.1 in
    let there : last.0 ≡ found.0 = cc (last.2) in
    in_shape_of_end entries (found.1 ∙ ap (λ (p : Place). Some p) (sym there ∙ end))
