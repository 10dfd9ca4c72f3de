-- inside this crate: what is found before anything is printed, and how the printing ends. No definition above rests on it.
use Rattle.std.specs.Prelude.{ℕ, List, [], ◌≡◌, Option, length, Result, Ok, Err}
use Rattle.lists.specs.Words.{enumerate_from}
use Rattle.first_refusal.specs.Checks.{Checks}
use Rattle.first_refusal.specs.Outcomes.{Outcome}
use Rattle.gds_records.specs.RecordSpelling.{spellings}
use Rattle.gds_write.specs.Written.{written}
use Rattle.geo_core.specs.Plane.{IsCoveredIn}
use Rattle.geo_core.specs.declared.plane.Cell.{Cell}
use Rattle.geo_core.specs.declared.plane.Rect.{Rect}
use Rattle.map_model.specs.MapNames.{LayerMap}
use Rattle.gauges.specs.declared.pair_row.PairRow.{PairRow}
use Rattle.area_parts.specs.Rows.{AreRows}
use Rattle.layout_pairs.specs.PairAreas.{ArePairRows}
use Rattle.pair_report.specs.PairReport.{whole_pair_text}
use Rattle.pair_report.specs.PairRows.{pair_rows}
use Rattle.layout_probe.specs.Probe.{IsProbe}
use Rattle.layout_probe.specs.ProbeText.{probe_text}
use Rattle.layout_regions.specs.Regions.{IsRegion}
use Rattle.net_extract.specs.Extraction.{IsOnItsMetal, off_metal}
use Rattle.net_extract.specs.declared.fault.NetFault.{NetFault}
use Rattle.questions.specs.declared.kind.Kind.{Kind}
use Rattle.questions.specs.declared.row.Row.{Row}
use Rattle.region_out.specs.RegionLibraries.{region_library_of}
use Rattle.run_inputs.specs.Coverage.{IsCoveredOn}
use Rattle.run_inputs.specs.Inquiries.{Inquiry}
use Rattle.run_inputs.specs.Refusals.{refusal_text}
use Rattle.run_inputs.specs.Failures.{Change}
use Rattle.run_inputs.specs.Layout.{Subject}
use Rattle.run_inputs.specs.StageAnswers.{FindsInFiles}
use Rattle.run_inputs.specs.declared.query.Query.{Query}
use Rattle.run_inputs.specs.declared.query.Query.TheVariants.{Report as for_report, Pairs as for_pairs, Probe as for_probe, Region as for_region}
use Rattle.run_inputs.specs.declared.refusal.Refusal.{Refusal}
use Rattle.run_inputs.specs.declared.unreported.Unreported.{Unreported}
use Rattle.run_inputs.specs.declared.unreported.Unreported.TheVariants.{Refused, FilesFailed, Memory}
use Rattle.critarea_core.specs.Outputs.{Due, region_room, whole_report}
use Rattle.critarea_core.specs.Run.{AreToldAll, AreToldSome, AreUnsure, AreUntold, FailsWithin, Gauges}
use Rattle.critarea_core.specs.Run.{IsIdle, MayComeTo, Output, Takes}
use Rattle.critarea_core.specs.declared.found.CriticalRegion.{CriticalRegion}
use Rattle.critarea_core.specs.declared.found.Found.{Found}
use Rattle.critarea_core.specs.declared.found.Found.TheVariants.{Report as Rows, Pairs as Tables, Probe as Probed, Region as Cells}

-- ---- what is found of a layout

-- the region has the critical cells of this kind and size on the layer with this number, of what is covered, and these units
pub record IsRegionIn (layer_map : LayerMap) (covers : ℕ → Cell → Type 0) (layout_units : List ℕ) (kind : Kind) (number size : ℕ) (region : CriticalRegion)
    : Type 0 where
  pub is_region : IsRegion layer_map covers kind number size region.rects.items
  pub units : region.units ≡ layout_units

-- this was found, as it is asked, of what is covered in a layout of these units: the rows that answer the questions of the layer map,
-- the pairs of nets, what is told at the cell of each metal, or the critical cells
abbrev pub IsFoundIn : Query → LayerMap → (ℕ → Cell → Type 0) → List ℕ → Found → Type 0
IsFoundIn for_report layer_map covers units (Rows report) = AreRows layer_map covers report.rows.items
IsFoundIn (for_pairs size) layer_map covers units (Tables tables) = ArePairRows layer_map covers size.size (pair_rows tables)
IsFoundIn (for_probe cell) layer_map covers units (Probed metals) = IsProbe layer_map covers cell metals.items
IsFoundIn (for_region kind number size) layer_map covers units (Cells region) = IsRegionIn layer_map covers units kind number size.size region
IsFoundIn query layer_map covers units found = ⊥

-- what layers come to: what is asked, where all terminals are on their metals, and else the fault of the first that is not
abbrev pub ComeToFound : LayerMap → List (List Rect) → List ℕ → Query → Outcome Found NetFault → Type 0
ComeToFound layer_map lists units query =
    Checks (IsOnItsMetal lists) (enumerate_from 0 layer_map.terminals) off_metal (IsFoundIn query layer_map (IsCoveredIn lists) units)

-- this was found on the subject, as it is asked
abbrev pub HasFound : Query → Subject → Found → Type 0
HasFound query subject = IsFoundIn query subject.layer_map (IsCoveredOn subject.layer_map subject.routes) subject.units

-- this was found for the inquiry
abbrev pub IsFoundFor : Inquiry → Found → Type 0
IsFoundFor inquiry = HasFound inquiry.query inquiry.subject

-- what is found of the words and the files
abbrev pub IsFound : List (List ℕ) → (List ℕ → Option (List ℕ)) → (List ℕ → Type 0) → Change ℕ → Result Found Unreported → Type 0
IsFound words told sure failures = FindsInFiles failures (AreUnsure words told sure) (MayComeTo words told) IsFoundFor

-- ---- the printing

-- a text is due with these rows, and as much room as it has bytes
abbrev pub due_of : List ℕ → List Row → List PairRow → Due
due_of text rows pairs = record { text = text; rows = rows; pair_rows = pairs; room = length text }

-- the region file of these cells is due, with room for any such file
abbrev pub region_due : CriticalRegion → Due
region_due region = record {
  text = spellings (written (region_library_of region.rects.items region.units region.fit));
  rows = [];
  pair_rows = [];
  room = region_room region.rects.items;
}

-- what is due to these gauges where this was found
abbrev pub due_to : Gauges → Found → Due
due_to gauges (Rows report) = due_of (whole_report report.rows.items gauges.of_rows.before) report.rows.items []
due_to gauges (Tables tables) = due_of (whole_pair_text (pair_rows tables) gauges.of_pairs.before) [] (pair_rows tables)
due_to gauges (Probed metals) = due_of (probe_text metals.items) [] []
due_to gauges (Cells region) = region_due region

-- how the printing of what is due ends, with this status
pub data DueEnds (due : Due) (gauges : Gauges) (out : Output) : ℕ → Type 0 where
  due_out : Takes out due.text → AreToldAll due gauges → DueEnds due gauges out 0
  due_cut : FailsWithin out due.text → AreToldAll due gauges → DueEnds due gauges out 5
  nothing_out : IsIdle out → AreToldSome due gauges → DueEnds due gauges out 6

-- how the printing of a refusal's line ends, with this status
pub data LineEnds (refusal : Refusal) (err : Output) : ℕ → Type 0 where
  line_out : Takes err (refusal_text refusal) → LineEnds refusal err refusal.status
  line_cut : FailsWithin err (refusal_text refusal) → LineEnds refusal err 5
  no_line : IsIdle err → LineEnds refusal err 6

-- what was found is printed, with this status
abbrev pub IsPrinted : Result Found Unreported → Gauges → Output → Output → ℕ → Type 0
IsPrinted (Ok found) gauges out err status = DueEnds (due_to gauges found) gauges out status × IsIdle err
IsPrinted (Err (Refused refusal)) gauges out err status = LineEnds refusal err status × IsIdle out × AreUntold gauges
IsPrinted (Err FilesFailed) gauges out err status = (status ≡ 5) × IsIdle out × IsIdle err × AreUntold gauges
IsPrinted (Err Memory) gauges out err status = (status ≡ 6) × IsIdle out × IsIdle err × AreUntold gauges
