-- The grammar of a library over its records (GDSII Stream Format Manual, Release 6.0, 'Stream Syntax'): each part of a library is
-- said by the records that it holds, in their order, and what a library says is said of the same parts. Of the own records of an
-- element some that it needs may be missing here: what an element lacks is one of its own checks.
use Rattle.std.specs.Prelude.{ℕ, List, [], ◌∷◌, ◌++◌, map, All, Contains, Option, IfSome, option_to_list, ◌≡◌, flat_map}
use Rattle.lists.specs.Differing.{AreDifferent}
use Rattle.gds_records.specs.declared.kinds.TheConstants as kind
use Rattle.gds_records.specs.RecordSpelling.{Entry}
use Rattle.library_grammar.specs.ElementForms.{ElementForm, Opens, own_kinds}

-- the kinds of records
abbrev pub kinds_of : List Entry → List ℕ
kinds_of entries = map (λ e. e.kind) entries

-- the record is of this kind
abbrev pub IsOfKind : ℕ → Entry → Type 0
IsOfKind k e = e.kind ≡ k

-- a property: PROPATTR PROPVALUE
pub record Property : Type 0 where
  pub attribute : Entry
  pub text : Entry

abbrev pub property_records : Property → List Entry
property_records property = property.attribute ∷ property.text ∷ []

pub record IsProperty (property : Property) : Type 0 where
  pub attribute : IsOfKind kind.PROPATTR property.attribute
  pub text : IsOfKind kind.PROPVALUE property.text

-- an element: the record that opens it, some of its own records, each at most once and in any order, {property}, ENDEL
pub record ElementParts : Type 0 where
  pub form : ElementForm
  pub opening : Entry
  pub own : List Entry
  pub properties : List Property
  pub last : Entry

abbrev pub element_records : ElementParts → List Entry
element_records element =
    element.opening ∷ (element.own ++ (flat_map property_records element.properties ++ element.last ∷ []))

pub record IsElement (element : ElementParts) : Type 0 where
  pub opens : Opens element.opening.kind element.form
  pub are_own : All (λ e. Contains (own_kinds element.form) e.kind) element.own
  pub once : AreDifferent (kinds_of element.own)
  pub properties : All IsProperty element.properties
  pub ends : IsOfKind kind.ENDEL element.last

-- a structure: BGNSTR STRNAME [STRCLASS] {element} ENDSTR
pub record StructureParts : Type 0 where
  pub opening : Entry
  pub name : Entry
  pub class : Option Entry
  pub elements : List ElementParts
  pub last : Entry

-- what stands in front of its elements
abbrev pub structure_head : StructureParts → List Entry
structure_head structure = structure.opening ∷ structure.name ∷ option_to_list structure.class

abbrev pub structure_records : StructureParts → List Entry
structure_records structure = structure_head structure ++ (flat_map element_records structure.elements ++ structure.last ∷ [])

pub record IsStructure (structure : StructureParts) : Type 0 where
  pub opens : IsOfKind kind.BGNSTR structure.opening
  pub names : IsOfKind kind.STRNAME structure.name
  pub class : IfSome structure.class (IsOfKind kind.STRCLASS)
  pub elements : All IsElement structure.elements
  pub ends : IsOfKind kind.ENDSTR structure.last

-- records that may stand in a library's head, any number of them in any order
abbrev pub head_kinds : List ℕ
head_kinds =
    kind.LIBDIRSIZE ∷ kind.SRFNAME ∷ kind.LIBSECUR ∷ kind.REFLIBS ∷ kind.FONTS ∷ kind.ATTRTABLE ∷ kind.GENERATIONS
    ∷ kind.FORMAT ∷ kind.MASK ∷ kind.ENDMASKS ∷ []

-- a library: HEADER BGNLIB {record of the head} LIBNAME {record of the head} UNITS {structure} ENDLIB
pub record LibraryParts : Type 0 where
  pub version : Entry
  pub opening : Entry
  pub before_name : List Entry
  pub name : Entry
  pub before_units : List Entry
  pub units : Entry
  pub structures : List StructureParts
  pub last : Entry

-- what stands in front of its structures
abbrev pub library_head : LibraryParts → List Entry
library_head library =
    library.version ∷ library.opening ∷ (library.before_name ++ library.name ∷ (library.before_units ++ library.units ∷ []))

abbrev pub library_records : LibraryParts → List Entry
library_records library = library_head library ++ (flat_map structure_records library.structures ++ library.last ∷ [])

pub record IsInGrammar (library : LibraryParts) : Type 0 where
  pub version : IsOfKind kind.HEADER library.version
  pub opens : IsOfKind kind.BGNLIB library.opening
  pub before_name : All (λ e. Contains head_kinds e.kind) library.before_name
  pub names : IsOfKind kind.LIBNAME library.name
  pub before_units : All (λ e. Contains head_kinds e.kind) library.before_units
  pub units : IsOfKind kind.UNITS library.units
  pub structures : All IsStructure library.structures
  pub ends : IsOfKind kind.ENDLIB library.last

-- the records are those of a library in the grammar
pub record IsInShape (entries : List Entry) : Type 0 where
  pub library : LibraryParts
  pub in_grammar : IsInGrammar library
  pub are_its : entries ≡ library_records library

-- the record may stand behind these: together they are the beginning of records in shape
pub record MayStand (before : List Entry) (e : Entry) : Type 0 where
  pub after : List Entry
  pub in_shape : IsInShape (before ++ e ∷ after)
