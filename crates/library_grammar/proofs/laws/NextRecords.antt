-- One record more behind others: where it leads, which names stand then, and that it shows no fault.
use Rattle.std.proofs.Common.{◌≡◌, ◌≢◌, ℕ, ◌⊎◌, inl, inr, List, [], ◌∷◌, ◌++◌, length, Contains, refl, sym, ap, subst, ◌∙◌, arith, Some, append_assoc, length-append}
use Rattle.lists.proofs.Words.{map-append, flat_map-append, All-nil, All-cons, All-contains, Contains-append_left, Contains-append_right, Contains-append_cases}
use Rattle.lists.proofs.Reading.{last_or_before}
use Rattle.gds_records.specs.declared.kinds.TheConstants as kind
use Rattle.library_grammar.specs.GrammarNames.{IsText, Entry, spelling, spellings, AreNamesIn, IsNameIn, NoneShows, Shows, repeats, is_faulty, behind, IsPlain, Place, before_header, before_strname}
use Rattle.library_grammar.specs.GrammarNames.{behind_strname, next_place, place_behind, kinds_of}
use Rattle.library_grammar.specs.FirstFault.{may_not_stand as shows_unexpected}
use Rattle.library_grammar.specs.declared.fault.SyntaxFault.{SyntaxFault}
use Rattle.gds_records.proofs.laws.Bodies.{texts_agree}
use Rattle.library_grammar.proofs.PlaceRuns.{place_behind-append}
use Rattle.library_grammar.proofs.laws.Places.{may_stand}

-- the offset behind two lists of records, one after the other
pub behind-append : (at : ℕ) (front more : List Entry) → behind at (front ++ more) ≡ behind (behind at front) more
behind-append at front more = omega (arith, ap length (flat_map-append spelling front more), length-append (spellings front) (spellings more))

-- none of these records shows a fault, and neither does one more
pub NoneShows-snoc : (before : List Entry) (e : Entry) → NoneShows before → ((fault : SyntaxFault) → Shows before e fault → ⊥) → NoneShows (before ++ e ∷ [])
NoneShows-snoc before e none quiet =
    λ front back other fault parts shown.
    elim (last_or_before before e front other back parts) [
      | inl (fronts, same, _) ↦ quiet fault (subst (λ (x : Entry). Shows before x fault) (sym same) (subst (λ (x : List Entry). Shows x other fault) (sym fronts) shown))
      | inr (more, fronts, _) ↦ none front more other fault fronts shown
    ]

-- a name that stands among records stands among more of them
pub among_more : (front entries after : List Entry) (name : List ℕ) → IsNameIn entries name → IsNameIn (front ++ (entries ++ after)) name
among_more front entries after name h = record {
  earlier = front ++ h.earlier;
  record_of_name = h.record_of_name;
  later = h.later ++ after;
  parts =
      ap (λ (x : List Entry). front ++ (x ++ after)) h.parts ∙ ap (λ (x : List Entry). front ++ x) (append_assoc h.earlier (h.record_of_name ∷ h.later) after)
      ∙ sym (append_assoc front h.earlier (h.record_of_name ∷ (h.later ++ after)));
  names = h.names;
  is_text = h.is_text;
}

-- and the last of them has it, or those before do
last_named : (before : List Entry) (e : Entry) (name : List ℕ) → IsNameIn (before ++ e ∷ []) name → ((e.kind ≡ kind.STRNAME) × IsText e.body name) ⊎ IsNameIn before name
last_named before e name found =
    elim (last_or_before before e found.earlier found.record_of_name found.later found.parts) [
      | inl (_, same, _) ↦ inl (ap (λ (x : Entry). x.kind) same ∙ found.names, subst (λ (x : Entry). IsText x.body name) (sym same) found.is_text)
      | inr (more, fronts, _) ↦
          inr (record { earlier = found.earlier; record_of_name = found.record_of_name; later = more; parts = fronts; names = found.names; is_text = found.is_text })
    ]

-- a record that names no structure changes no names
pub AreNamesIn-snoc : (before : List Entry) (e : Entry) (names : List (List ℕ)) → e.kind ≢ kind.STRNAME → AreNamesIn before names → AreNamesIn (before ++ e ∷ []) names
AreNamesIn-snoc before e names other are name = (
  λ has. among_more [] before (e ∷ []) name ((are name).0 has),
  λ found. elim (last_named before e name found) [ inl (is, _) ↦ absurd (other is) | inr earlier ↦ (are name).1 earlier ],
)

-- and one that names a structure has one name more
pub AreNamesIn-named : (before : List Entry) (e : Entry) (names : List (List ℕ)) (text : List ℕ) → e.kind ≡ kind.STRNAME → IsText e.body text → AreNamesIn before names
    → AreNamesIn (before ++ e ∷ []) (names ++ text ∷ [])
AreNamesIn-named before e names text is is_text are name = (
  λ has.
      elim (Contains-append_cases names (text ∷ []) name has) [
        | inl among ↦ among_more [] before (e ∷ []) name ((are name).0 among)
        | inr last ↦
            let Same : List ℕ → Type 0 = λ n. n ≡ text in
            let same : name ≡ text = All-contains Same (text ∷ []) name (All-cons Same text [] refl (All-nil Same)) last in
            record { earlier = before; record_of_name = e; later = []; parts = refl; names = is; is_text = subst (λ (n : List ℕ). IsText e.body n) (sym same) is_text }
      ],
  λ found.
      elim (last_named before e name found) [
        | inl (_, of_name) ↦ Contains-append_right names (text ∷ []) name (0, omega arith, texts_agree e.body text name is_text of_name)
        | inr earlier ↦ Contains-append_left names (text ∷ []) name ((are name).1 earlier)
      ],
)

-- where one record more leads
pub place_after : (before : List Entry) (e : Entry) (from to : Place) → place_behind before_header (kinds_of before) ≡ Some from → next_place from e.kind ≡ Some to
    → place_behind before_header (kinds_of (before ++ e ∷ [])) ≡ Some to
place_after before e from to here next =
    rw (map-append (λ (x : Entry). x.kind) before (e ∷ []), place_behind-append before_header (kinds_of before) (e.kind ∷ []), here, next) refl

-- a plain record that may stand shows no fault
pub plain_shows_nothing : (before : List Entry) (e : Entry) (from to : Place) (fault : SyntaxFault) → place_behind before_header (kinds_of before) ≡ Some from
    → next_place from e.kind ≡ Some to → IsPlain e.kind → Shows before e fault → ⊥
plain_shows_nothing before e from to fault here next plain (shows_unexpected may_not) = may_not (may_stand before e from to here next)
plain_shows_nothing before e from to fault here next plain (repeats may names is_text in_before) = plain.names_nothing names
plain_shows_nothing before e from to fault here next plain (is_faulty may ends fails) =
    elim ends.ends [ inl attribute ↦ plain.is_no_attribute attribute | inr end ↦ plain.is_no_end end ]

-- a new name shows no fault
pub new_name_is_quiet : (before : List Entry) (e : Entry) (names : List (List ℕ)) (text : List ℕ) (fault : SyntaxFault) → place_behind before_header (kinds_of before) ≡ Some before_strname
    → e.kind ≡ kind.STRNAME → IsText e.body text → (Contains names text → ⊥) → AreNamesIn before names → Shows before e fault → ⊥
new_name_is_quiet before e names text fault here is is_text fresh are (shows_unexpected may_not) = may_not (may_stand before e before_strname behind_strname here (ap (next_place before_strname) is))
new_name_is_quiet before e names text fault here is is_text fresh are (repeats {name = name} may _ other_text in_before) =
    fresh ((are text).1 (subst (λ (n : List ℕ). IsNameIn before n) (texts_agree e.body name text other_text is_text) in_before))
new_name_is_quiet before e names text fault here is is_text fresh are (is_faulty may ends fails) =
    elim ends.ends [ inl attribute ↦ omega (arith, is, attribute) | inr end ↦ omega (arith, is, end) ]
