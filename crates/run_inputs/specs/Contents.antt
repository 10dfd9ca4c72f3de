-- what files contain, and where a request has its map and its layout from
use Rattle.std.specs.Prelude.{ℕ, List, [], ◌∷◌, ◌++◌, ◌≡◌, Option, Some, None}
use Rattle.lists.specs.ByteLists.{AreBytes}
use Rattle.layout_gen.specs.Generated.{generated_layout}
use Rattle.command_line.specs.declared.task.Task.{Task}
use Rattle.command_line.specs.declared.task.Task.TheVariants.{OneMetal, Mapped, Generated, Pairs, Probe, Regions}

-- the bytes of the file of each name, where it is read as a map, and where it is read as a layout: a file of which nothing is
-- told may change from the one reading to the other
pub record Contents : Type 0 where
  pub map : List ℕ → List ℕ
  pub layout : List ℕ → List ℕ

-- a file of which this is told may have these bytes: those that are told, or else any
abbrev pub MayHave : Option (List ℕ) → List ℕ → Type 0
MayHave (Some told) bytes = bytes ≡ told
MayHave None bytes = AreBytes bytes

-- so may the file of each name
abbrev pub MayContain : (List ℕ → Option (List ℕ)) → (List ℕ → List ℕ) → Type 0
MayContain told bytes = (name : List ℕ) → MayHave (told name) (bytes name)

-- the files may have these contents, as far as they tell them
abbrev pub AgreeWith : (List ℕ → Option (List ℕ)) → Contents → Type 0
AgreeWith told contents = MayContain told contents.map × MayContain told contents.layout

-- where a layout comes from: the file of this name, or the request itself makes these bytes
pub data Source : Type 0 where
  file : List ℕ → Source
  made : List ℕ → Source

-- where the layout of the task comes from
abbrev pub layout_source : Task → Source
layout_source (OneMetal layout layer datatype radius top) = file layout
layout_source (Mapped layout map top) = file layout
layout_source (Generated columns) = made (generated_layout columns)
layout_source (Pairs layout map top size) = file layout
layout_source (Probe layout map top cell) = file layout
layout_source (Regions layout map top kind layer size) = file layout

-- the bytes from there
abbrev pub bytes_from : (List ℕ → List ℕ) → Source → List ℕ
bytes_from contents (file name) = contents name
bytes_from contents (made bytes) = bytes

-- the structure that is wanted as the top, by its name
abbrev pub wanted_top : Task → Option (List ℕ)
wanted_top (OneMetal layout layer datatype radius top) = top
wanted_top (Mapped layout map top) = top
wanted_top (Generated columns) = None
wanted_top (Pairs layout map top size) = top
wanted_top (Probe layout map top cell) = top
wanted_top (Regions layout map top kind layer size) = top

-- the name of the map's file, where there is one: for one metal, and for a generated layout, there is none
abbrev pub map_names : Task → List (List ℕ)
map_names (OneMetal layout layer datatype radius top) = []
map_names (Mapped layout map top) = map ∷ []
map_names (Generated columns) = []
map_names (Pairs layout map top size) = map ∷ []
map_names (Probe layout map top cell) = map ∷ []
map_names (Regions layout map top kind layer size) = map ∷ []

-- the name of the file, where the source is one
abbrev pub names_in : Source → List (List ℕ)
names_in (file name) = name ∷ []
names_in (made bytes) = []

-- the names of the files of the task: the map's, and then the layout's
abbrev pub file_names : Task → List (List ℕ)
file_names task = map_names task ++ names_in (layout_source task)
