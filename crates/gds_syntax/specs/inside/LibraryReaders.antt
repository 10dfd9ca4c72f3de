-- What the readers of a library and of its parts do: which records they took from the stream, where they stand, and which fault
-- they found.
use Rattle.std.specs.Prelude.{ℕ, List, [], ◌∷◌, ◌++◌, length, All, Contains, Option, Some, None, IfSome, option_to_list, true, false}
use Rattle.std.specs.Prelude.{IsTrue, if◌then◌else◌, ◌==◌, ◌<◌, ◌≤◌, ◌≡◌, ◌≢◌, ◌↔◌, ◌⊎◌, flat_map}
use Rattle.first_refusal.specs.Outcomes.{Outcome, value, refused}
use Rattle.gds_records.specs.declared.kinds.TheConstants as kind
use Rattle.library_grammar.specs.GrammarNames.{IsInProfile, Reading, IsLeft, entry_of, Entry, IsEndlib, End, ElementForm, own_kinds}
use Rattle.library_grammar.specs.GrammarNames.{AreNamesIn, IsFirstFault, NoneShows, IsText, IsKept, kinds_of, head_kinds, IsOfKind}
use Rattle.library_grammar.specs.GrammarNames.{Property, property_records, IsProperty, ElementParts, element_records, IsElement}
use Rattle.library_grammar.specs.GrammarNames.{StructureParts, structure_records, IsStructure, behind, SayElements, SaysStructure}
use Rattle.library_grammar.specs.GrammarNames.{SayStructures, AreDifferent, names_of, IsPlain, Place, before_header, between_structures}
use Rattle.library_grammar.specs.GrammarNames.{before_strname, behind_strname, between_elements, among_own, behind_attribute}
use Rattle.library_grammar.specs.GrammarNames.{behind_property, behind_endlib, into_element, has_kind, next_place, place_behind}
use Rattle.gds_records.specs.declared.record.Record.{Record}
use Rattle.library_model.specs.declared.element.Element.{Element}
use Rattle.library_grammar.specs.declared.fault.SyntaxFault.{SyntaxFault}
use Rattle.library_model.specs.declared.library.Structure.{Structure}
use Rattle.gds_syntax.specs.StreamLimits.{most_bytes}

-- the reader can read on: ENDLIB is still to come, and the stream is not too long
pub record IsReady (reading : Reading) : Type 0 where
  pub runs : reading.ended ≡ false
  pub within : reading.at ≤ length reading.bytes
  pub short : length reading.bytes ≤ most_bytes

-- the reader took these records: what was left is they, and then what is left
pub record Takes (old new : Reading) (taken : List Entry) : Type 0 where
  pub left : (entries : List Entry) (end : End) → IsLeft old entries end
      → (others : List Entry) × (entries ≡ taken ++ others) × IsLeft new others end
  pub offset : new.at ≡ behind old.at taken
  pub bytes : new.bytes ≡ old.bytes

-- the reader took this one record, which is of the profile; it can read on unless the record is ENDLIB
pub record TakesRecord (old new : Reading) (r : Record) : Type 0 where
  pub takes : Takes old new (entry_of r ∷ [])
  pub in_profile : IsInProfile (entry_of r)
  pub place : r.at ≡ old.at
  pub bytes : new.bytes ≡ old.bytes
  pub further : old.at < new.at
  pub within : new.at ≤ length new.bytes
  pub ends : IsTrue new.ended ↔ IsEndlib (entry_of r)
  pub ready : r.kind ≢ kind.ENDLIB → IsReady new

-- where a reader stands in the grammar, and the names of the structures behind it
pub record Standing : Type 0 where
  pub place : Place
  pub names : List (List ℕ)

-- the reader stands there, with structures of these names behind it
abbrev pub standing : Place → List (List ℕ) → Standing
standing place names = record { place = place; names = names }

-- the reader stands behind these records, of which none shows a fault
pub record IsAt (reading : Reading) (before : List Entry) (standing : Standing) : Type 0 where
  pub place : place_behind before_header (kinds_of before) ≡ Some standing.place
  pub none_shows : NoneShows before
  pub offset : reading.at ≡ behind 0 before
  pub names : AreNamesIn before standing.names

-- the reader went on from one standing to another by these records, whatever stands in front of them
pub record Advances (old new : Reading) (from to : Standing) (taken : List Entry) : Type 0 where
  pub takes : Takes old new taken
  pub stands : (before : List Entry) → IsAt old before from → IsAt new (before ++ taken) to

-- the fault is the first of the stream that has these records and then those that are left
abbrev pub IsFirstBehind : List Entry → Reading → SyntaxFault → Type 0
IsFirstBehind before reading fault =
    (entries : List Entry) (end : End) → IsLeft reading entries end → IsFirstFault (before ++ entries) end fault

-- behind any records with which a reader stands there, the fault is the first of the stream
abbrev pub Stops : Reading → Standing → SyntaxFault → Type 0
Stops reading standing fault = (before : List Entry) → IsAt reading before standing → IsFirstBehind before reading fault

-- the same where a reader stands at this place, whichever names are behind it
abbrev pub StopsAt : Reading → Place → SyntaxFault → Type 0
StopsAt reading place fault = (names : List (List ℕ)) → Stops reading (standing place names) fault

-- what a reader comes to: a thing that was read so, or a fault at which it stops so
abbrev pub ReadsOrStops : {T : Type 0} → (T → Type 0) → (SyntaxFault → Type 0) → Outcome T SyntaxFault → Type 0
ReadsOrStops IsRead IsStop (value thing) = IsRead thing
ReadsOrStops IsRead IsStop (refused fault) = IsStop fault

-- a place in the head of a library: records of the head stay there, and the one of this kind leads on
abbrev pub IsHeadPlace : Place → ℕ → Place → Type 0
IsHeadPlace place last next =
    (k : ℕ) → next_place place k ≡ (if k == last then Some next else if has_kind head_kinds k then Some place else None)

-- The reader took records of the head before the next of this kind, and then this record, of which it is not known yet whether
-- it may stand there.
pub record ReadsHeadSoFar (last : ℕ) (old new : Reading) (r : Record) : Type 0 where
  pub between : Reading
  pub front : List Entry
  pub are_head : All (λ e. Contains head_kinds e.kind) front
  pub advances : (from : Standing) (to : Place) → IsHeadPlace from.place last to → Advances old between from from front
  pub takes : TakesRecord between new r

-- the reader took records of the head, and then this one of this kind
pub record ReadsHeadRecords (last : ℕ) (old new : Reading) (r : Record) : Type 0 where
  pub of_kind : r.kind ≡ last
  pub front : List Entry
  pub are_head : All (λ e. Contains head_kinds e.kind) front
  pub in_profile : IsInProfile (entry_of r)
  pub advances : (from : Standing) (to : Place) → IsHeadPlace from.place last to → IsPlain last
      → Advances old new from (standing to from.names) (front ++ entry_of r ∷ [])
  pub ready : last ≢ kind.ENDLIB → IsReady new

-- the records are those of an element that begins at this offset, and this is kept of it
pub record IsElementAt (at : ℕ) (entries : List Entry) (kept : Option Element) : Type 0 where
  pub parts : ElementParts
  pub in_grammar : IsElement parts
  pub are_its : entries ≡ element_records parts
  pub keeps : IsKept at parts.own parts.opening.kind kept

-- the records are those of elements, the first of which begins at this offset, and these are kept
pub record AreElements (at : ℕ) (entries : List Entry) (elements : List Element) : Type 0 where
  pub parts : List ElementParts
  pub in_grammar : All IsElement parts
  pub are_theirs : entries ≡ flat_map element_records parts
  pub say : SayElements at parts elements

-- the records are those of a structure that begins at this offset
pub record IsStructureAt (at : ℕ) (entries : List Entry) (structure : Structure) : Type 0 where
  pub parts : StructureParts
  pub in_grammar : IsStructure parts
  pub are_its : entries ≡ structure_records parts
  pub says : SaysStructure at parts structure

-- the records are those of structures, the first of which begins at this offset
pub record AreStructures (at : ℕ) (entries : List Entry) (structures : List Structure) : Type 0 where
  pub parts : List StructureParts
  pub in_grammar : All IsStructure parts
  pub are_theirs : entries ≡ flat_map structure_records parts
  pub say : SayStructures at parts structures

-- what stands in front of the structures, and the name and the units that it gives
pub record IsHead (entries : List Entry) (library_name library_units : List ℕ) : Type 0 where
  pub version : Entry
  pub is_version : IsOfKind kind.HEADER version
  pub opening : Entry
  pub opens : IsOfKind kind.BGNLIB opening
  pub before_name : List Entry
  pub are_before_name : All (λ e. Contains head_kinds e.kind) before_name
  pub name : Entry
  pub names : IsOfKind kind.LIBNAME name
  pub before_units : List Entry
  pub are_before_units : All (λ e. Contains head_kinds e.kind) before_units
  pub units : Entry
  pub are_units : IsOfKind kind.UNITS units
  pub are_its : entries ≡ version ∷ opening ∷ (before_name ++ name ∷ (before_units ++ units ∷ []))
  pub has_name : IsText name.body library_name
  pub has_units : library_units ≡ units.body

-- the reader took the head of a library with this name and these units
pub record ReadsHead (old new : Reading) (name units : List ℕ) : Type 0 where
  pub entries : List Entry
  pub is_head : IsHead entries name units
  pub advances : Advances old new (standing before_header []) (standing between_structures []) entries
  pub ready : IsReady new

-- The reader took these own records of an element of this form, and then this record, of which it is not known yet whether it
-- may stand there.
pub record ReadsOwnSoFar (old new : Reading) (form : ElementForm) (own : List Entry) (r : Record) : Type 0 where
  pub between : Reading
  pub are_own : All (λ e. Contains (own_kinds form) e.kind) own
  pub once : AreDifferent (kinds_of own)
  pub advances : (names : List (List ℕ))
      → Advances old between (standing (among_own form []) names) (standing (among_own form (kinds_of own)) names) own
  pub takes : TakesRecord between new r

-- The record ends the own records. Whether it shows a fault is not known yet.
pub record ReadsOwn (old new : Reading) (form : ElementForm) (own : List Entry) (r : Record) : Type 0 where
  pub so_far : ReadsOwnSoFar old new form own r
  pub ends : (r.kind ≡ kind.PROPATTR) ⊎ (r.kind ≡ kind.ENDEL)

-- Behind PROPATTR the reader took the rest of the property and more properties, and then this record, of which it is not known yet
-- whether it may stand there.
pub record ReadsPropertiesSoFar (old new : Reading) (r : Record) : Type 0 where
  pub between : Reading
  pub text : Entry
  pub is_text : IsOfKind kind.PROPVALUE text
  pub properties : List Property
  pub are_properties : All IsProperty properties
  pub advances : (names : List (List ℕ))
      → Advances old between (standing behind_attribute names) (standing behind_property names)
      (text ∷ flat_map property_records properties)
  pub takes : TakesRecord between new r

-- behind PROPATTR the reader took the rest of the property, more properties, and ENDEL
pub record ReadsProperties (old new : Reading) : Type 0 where
  pub text : Entry
  pub is_text : IsOfKind kind.PROPVALUE text
  pub properties : List Property
  pub are_properties : All IsProperty properties
  pub last : Entry
  pub is_last : IsOfKind kind.ENDEL last
  pub advances : (names : List (List ℕ))
      → Advances old new (standing behind_attribute names) (standing between_elements names)
      (text ∷ (flat_map property_records properties ++ last ∷ []))
  pub ready : IsReady new

-- behind the record that opens it the reader took an element
pub record ReadsElement (old new : Reading) (opening : Record) (form : ElementForm) (kept : Option Element) : Type 0 where
  pub entries : List Entry
  pub is_element : IsElementAt opening.at (entry_of opening ∷ entries) kept
  pub advances : (names : List (List ℕ)) → Advances old new (standing (among_own form []) names) (standing between_elements names) entries
  pub ready : IsReady new

-- a place where an element may begin or the structure end, as far as records of this kind tell
abbrev pub IsBetweenElements : Place → ℕ → Type 0
IsBetweenElements place k = next_place place k ≡ into_element k

-- Behind the name of a structure the reader took its class, if it has one, and elements, and then this record, of which it is not
-- known yet whether it may stand there.
pub record ReadsElementsSoFar (old new : Reading) (elements : List Element) (r : Record) : Type 0 where
  pub between : Reading
  pub class : Option Entry
  pub is_class : IfSome class (IsOfKind kind.STRCLASS)
  pub entries : List Entry
  pub are_elements : AreElements (behind old.at (option_to_list class)) entries elements
  pub few : length elements ≤ between.at
  pub place : Place
  pub is_between : IsBetweenElements place r.kind
  pub advances : (names : List (List ℕ))
      → Advances old between (standing behind_strname names) (standing place names) (option_to_list class ++ entries)
  pub takes : TakesRecord between new r

-- behind the name of a structure the reader took its class, if it has one, its elements and its end
pub record ReadsElements (old new : Reading) (elements : List Element) : Type 0 where
  pub class : Option Entry
  pub is_class : IfSome class (IsOfKind kind.STRCLASS)
  pub entries : List Entry
  pub are_elements : AreElements (behind old.at (option_to_list class)) entries elements
  pub last : Entry
  pub is_last : IsOfKind kind.ENDSTR last
  pub few : length elements ≤ new.at
  pub advances : (names : List (List ℕ))
      → Advances old new (standing behind_strname names) (standing between_structures names) (option_to_list class ++ entries ++ last ∷ [])
  pub ready : IsReady new

-- behind BGNSTR the reader took a structure
pub record ReadsStructure (old new : Reading) (names more : List (List ℕ)) (opening : Record) (structure : Structure) : Type 0 where
  pub entries : List Entry
  pub is_structure : IsStructureAt opening.at (entry_of opening ∷ entries) structure
  pub few : length structure.elements ≤ new.at
  pub named : more ≡ names ++ structure.name ∷ []
  pub further : old.at < new.at
  pub advances : Advances old new (standing before_strname names) (standing between_structures more) entries
  pub ready : IsReady new

-- Behind the head the reader took structures, and then this record, of which it is not known yet whether it may stand there.
pub record ReadsStructuresSoFar (old new : Reading) (structures : List Structure) (names : List (List ℕ)) (r : Record) : Type 0 where
  pub between : Reading
  pub entries : List Entry
  pub are_structures : AreStructures old.at entries structures
  pub few_structures : length structures ≤ between.at
  pub few_elements : All (λ structure. length structure.elements ≤ most_bytes) structures
  pub are_names : names ≡ names_of structures
  pub advances : Advances old between (standing between_structures []) (standing between_structures names) entries
  pub takes : TakesRecord between new r

-- behind the head the reader took structures and the end of the library
pub record ReadsStructures (old new : Reading) (structures : List Structure) : Type 0 where
  pub entries : List Entry
  pub are_structures : AreStructures old.at entries structures
  pub last : Entry
  pub is_last : IsOfKind kind.ENDLIB last
  pub few_structures : length structures ≤ most_bytes
  pub few_elements : All (λ structure. length structure.elements ≤ most_bytes) structures
  pub advances : Advances old new (standing between_structures []) (standing behind_endlib (names_of structures)) (entries ++ last ∷ [])
  pub ended : new.ended ≡ true
