-- the elements of a structure: which records of its own each has, and what kind of element it is
use Rattle.std.specs.Prelude.{ℕ, List, [], ◌∷◌, ◌++◌, Contains, ◌≡◌, ◌≤◌}
use Rattle.gds_records.specs.declared.kinds.TheConstants as kind

-- how many points an element has
pub data PointCount : Type 0 where
  at_least : ℕ → PointCount
  exactly : ℕ → PointCount

-- what an element stands for: a closed outline, an open line, a reference, an array of references, or what is let go
pub data Sort : Type 0 where
  outline : Sort
  open_line : Sort
  reference : Sort
  array : Sort
  annotation : Sort

-- An element by the record that opens it: its sort, the kinds of its own records, which are those that it needs, in rising
-- order, and those that it may have besides, and how many points its XY has.
pub record ElementForm : Type 0 where
  pub opening : ℕ
  pub sort : Sort
  pub required : List ℕ
  pub optional : List ℕ
  pub points : PointCount

-- an element that may have flags and a plex number, as each may, and these besides
abbrev form : ℕ → Sort → List ℕ → List ℕ → PointCount → ElementForm
form opening sort required besides points =
    record { opening = opening; sort = sort; required = required; optional = kind.ELFLAGS ∷ kind.PLEX ∷ besides; points = points }

-- how a reference, or a text, is turned
abbrev turn_kinds : List ℕ
turn_kinds = kind.STRANS ∷ kind.MAG ∷ kind.ANGLE ∷ []

-- each element: what opens it, its sort, what it needs, what it may have besides, and how many points
abbrev pub boundary_form : ElementForm
boundary_form = form kind.BOUNDARY outline (kind.LAYER ∷ kind.DATATYPE ∷ kind.XY ∷ []) [] (at_least 4)

abbrev pub path_form : ElementForm
path_form =
    form kind.PATH open_line (kind.LAYER ∷ kind.DATATYPE ∷ kind.XY ∷ [])
    (kind.PATHTYPE ∷ kind.WIDTH ∷ kind.BGNEXTN ∷ kind.ENDEXTN ∷ []) (at_least 1)

abbrev pub sref_form : ElementForm
sref_form = form kind.SREF reference (kind.XY ∷ kind.SNAME ∷ []) turn_kinds (exactly 1)

abbrev pub aref_form : ElementForm
aref_form = form kind.AREF array (kind.XY ∷ kind.SNAME ∷ kind.COLROW ∷ []) turn_kinds (exactly 3)

abbrev pub text_form : ElementForm
text_form =
    form kind.TEXT annotation (kind.LAYER ∷ kind.XY ∷ kind.TEXTTYPE ∷ kind.STRING ∷ [])
    (kind.PRESENTATION ∷ kind.PATHTYPE ∷ kind.WIDTH ∷ turn_kinds) (at_least 1)

abbrev pub node_form : ElementForm
node_form = form kind.NODE annotation (kind.LAYER ∷ kind.XY ∷ kind.NODETYPE ∷ []) [] (at_least 1)

abbrev pub box_form : ElementForm
box_form = form kind.BOX outline (kind.LAYER ∷ kind.XY ∷ kind.BOXTYPE ∷ []) [] (at_least 4)

-- all elements
abbrev pub element_forms : List ElementForm
element_forms = boundary_form ∷ path_form ∷ sref_form ∷ aref_form ∷ text_form ∷ node_form ∷ box_form ∷ []

-- the kinds that an element's own records may have
abbrev pub own_kinds : ElementForm → List ℕ
own_kinds form = form.required ++ form.optional

-- an element of this form begins with a record of this kind
pub record Opens (k : ℕ) (form : ElementForm) : Type 0 where
  pub listed : Contains element_forms form
  pub opening : k ≡ form.opening

-- an element may have so many points
abbrev pub IsCount : PointCount → ℕ → Type 0
IsCount (at_least least) n = least ≤ n
IsCount (exactly count) n = n ≡ count
