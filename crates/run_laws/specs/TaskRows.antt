-- of which kind the rows are that a task gives, which task gives the critical cells of one, and which names a size
use Rattle.command_line.specs.declared.task.Task.{Task}
use Rattle.command_line.specs.declared.task.Task.TheVariants.{OneMetal, Mapped, Generated, Pairs, Probe, Regions}

-- the task gives the rows of a report
abbrev pub GivesReport : Task → Type 0
GivesReport (OneMetal layout layer datatype radius top) = Unit {0}
GivesReport (Mapped layout map top) = Unit {0}
GivesReport (Generated columns) = Unit {0}
GivesReport (Pairs layout map top size) = ⊥
GivesReport (Probe layout map top cell) = ⊥
GivesReport (Regions layout map top kind layer size) = ⊥

-- the task gives rows of pairs of nets
abbrev pub GivesPairs : Task → Type 0
GivesPairs (OneMetal layout layer datatype radius top) = ⊥
GivesPairs (Mapped layout map top) = ⊥
GivesPairs (Generated columns) = ⊥
GivesPairs (Pairs layout map top size) = Unit {0}
GivesPairs (Probe layout map top cell) = ⊥
GivesPairs (Regions layout map top kind layer size) = ⊥

-- the task gives the critical cells of a row, for which it names a layer of the map
abbrev pub GivesRegion : Task → Type 0
GivesRegion (OneMetal layout layer datatype radius top) = ⊥
GivesRegion (Mapped layout map top) = ⊥
GivesRegion (Generated columns) = ⊥
GivesRegion (Pairs layout map top size) = ⊥
GivesRegion (Probe layout map top cell) = ⊥
GivesRegion (Regions layout map top kind layer size) = Unit {0}

-- the task names a size of the map by its number
abbrev pub NamesSize : Task → Type 0
NamesSize (OneMetal layout layer datatype radius top) = ⊥
NamesSize (Mapped layout map top) = ⊥
NamesSize (Generated columns) = ⊥
NamesSize (Pairs layout map top size) = Unit {0}
NamesSize (Probe layout map top cell) = ⊥
NamesSize (Regions layout map top kind layer size) = Unit {0}
