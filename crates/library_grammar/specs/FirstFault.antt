-- The first fault of a stream. Records are looked at in order, and the first that shows a fault decides.
use Rattle.std.specs.Prelude.{ℕ, List, ◌∷◌, ◌++◌, All, Contains, ◌≡◌, ◌↔◌, ◌⊎◌}
use Rattle.first_refusal.specs.Outcomes.{Outcome, value, refused}
use Rattle.gds_records.specs.declared.kinds.TheConstants as kind
use Rattle.gds_records.specs.Fields.{IsText}
use Rattle.gds_records.specs.RecordSpelling.{Entry}
use Rattle.gds_records.specs.declared.fault.RecordFault.{RecordFault}
use Rattle.gds_records.specs.Split.{End, whole, stops, Splits}
use Rattle.library_grammar.specs.ElementForms.{ElementForm, Opens, own_kinds}
use Rattle.library_grammar.specs.ElementChecks.{IsElementFault}
use Rattle.library_grammar.specs.Libraries.{behind, IsLibrary}
use Rattle.library_grammar.specs.Grammar.{MayStand}
use Rattle.library_grammar.specs.declared.fault.SyntaxFault.{SyntaxFault}
use Rattle.library_grammar.specs.declared.fault.SyntaxFault.TheVariants.{Record, Unexpected, RepeatedStructure}
use Rattle.library_model.specs.declared.library.Library.{Library}

-- a structure among these records has this name
pub record IsNameIn (before : List Entry) (name : List ℕ) : Type 0 where
  pub earlier : List Entry
  pub record_of_name : Entry
  pub later : List Entry
  pub parts : before ≡ earlier ++ record_of_name ∷ later
  pub names : record_of_name.kind ≡ kind.STRNAME
  pub is_text : IsText record_of_name.body name

-- the names of the structures among these records
abbrev pub AreNamesIn : List Entry → List (List ℕ) → Type 0
AreNamesIn before names = (name : List ℕ) → Contains names name ↔ IsNameIn before name

-- The record ends the own records of an element: it is the first PROPATTR of the element, or its ENDEL where it has none.
-- In front of it stand the element's own records, and in front of these the record that opens the element.
pub record EndsOwnRecords (before : List Entry) (e : Entry) (at : ℕ) (form : ElementForm) (own : List Entry) : Type 0 where
  pub ends : (e.kind ≡ kind.PROPATTR) ⊎ (e.kind ≡ kind.ENDEL)
  pub earlier : List Entry
  pub opening : Entry
  pub parts : before ≡ earlier ++ opening ∷ own
  pub opens : Opens opening.kind form
  pub are_own : All (λ o. Contains (own_kinds form) o.kind) own
  pub place : at ≡ behind 0 earlier

-- the record that stands behind these shows this fault
pub data Shows (before : List Entry) (e : Entry) : SyntaxFault → Type 0 where
  may_not_stand : (MayStand before e → ⊥) → Shows before e (Unexpected (behind 0 before) e.kind)
  repeats : {name : List ℕ} → MayStand before e → e.kind ≡ kind.STRNAME → IsText e.body name → IsNameIn before name
      → Shows before e (RepeatedStructure (behind 0 before))
  is_faulty : {at : ℕ} {form : ElementForm} {own : List Entry} {fault : SyntaxFault} → MayStand before e
      → EndsOwnRecords before e at form own → IsElementFault at form own fault → Shows before e fault

-- no record of these shows a fault
abbrev pub NoneShows : List Entry → Type 0
NoneShows entries =
    (before after : List Entry) (e : Entry) (fault : SyntaxFault) → entries ≡ before ++ e ∷ after → Shows before e fault → ⊥

-- the first fault of a stream that splits into these records and this end
pub data IsFirstFault (entries : List Entry) : End → SyntaxFault → Type 0 where
  at_record : (before after : List Entry) (e : Entry) {end : End} {fault : SyntaxFault} → entries ≡ before ++ e ∷ after
      → NoneShows before → Shows before e fault → IsFirstFault entries end fault
  at_end : {why : RecordFault} → NoneShows entries → IsFirstFault entries (stops why) (Record why)

-- what bytes come to: the library that their records say, where none of them shows a fault and the split is whole, or the
-- first fault
pub data BytesComeTo (bytes : List ℕ) : Outcome Library SyntaxFault → Type 0 where
  are_library : {entries : List Entry} {library : Library} → Splits 0 bytes entries whole → NoneShows entries
      → IsLibrary entries library → BytesComeTo bytes (value library)
  have_fault : {entries : List Entry} {end : End} {fault : SyntaxFault} → Splits 0 bytes entries end
      → IsFirstFault entries end fault → BytesComeTo bytes (refused fault)
