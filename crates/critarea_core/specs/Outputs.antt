-- what is due where words, map and layout are good
use Rattle.std.specs.Prelude.{ℕ, List, [], ◌++◌, ◌+◌, ◌*◌, ◌≡◌, length}
use Rattle.gds_records.specs.RecordSpelling.{spellings}
use Rattle.gds_write.specs.Written.{written}
use Rattle.geo_core.specs.declared.plane.Cell.{Cell}
use Rattle.geo_core.specs.declared.plane.Rect.{Rect}
use Rattle.area_parts.specs.Rows.{AreRows}
use Rattle.report.specs.Report.{report_text}
use Rattle.gauges.specs.GaugeViews.{GaugeView, texts_after}
use Rattle.gauges.specs.declared.pair_row.PairRow.{PairRow}
use Rattle.pair_report.specs.PairReport.{whole_pair_text}
use Rattle.layout_pairs.specs.PairAreas.{ArePairRows}
use Rattle.layout_probe.specs.Probe.{IsProbe}
use Rattle.layout_probe.specs.ProbeText.{probe_text}
use Rattle.layout_probe.specs.declared.metal_near.MetalNear.{MetalNear}
use Rattle.layout_regions.specs.Regions.{IsRegion, cell_count}
use Rattle.questions.specs.declared.kind.Kind.{Kind}
use Rattle.questions.specs.declared.row.Row.{Row}
use Rattle.region_out.specs.RegionLibraries.{AreUnits, region_library_of}
use Rattle.run_inputs.specs.Coverage.{IsCoveredOn}
use Rattle.run_inputs.specs.Inquiries.{Inquiry}
use Rattle.run_inputs.specs.Layout.{Subject}
use Rattle.run_inputs.specs.declared.query.Query.{Query}
use Rattle.run_inputs.specs.declared.query.Query.TheVariants.{Report as for_report, Pairs as for_pairs, Probe as for_probe, Region as for_region}

-- the rows answer the questions of the subject's layer map on what its routes cover
abbrev pub AreRowsOn : Subject → List Row → Type 0
AreRowsOn subject = AreRows subject.layer_map (IsCoveredOn subject.layer_map subject.routes)

-- the rows are those of the pairs of nets of what the subject's routes cover, for defects of this size
abbrev pub ArePairRowsOn : Subject → ℕ → List PairRow → Type 0
ArePairRowsOn subject = ArePairRows subject.layer_map (IsCoveredOn subject.layer_map subject.routes)

-- this is told at the cell: for each metal of the subject's layer map, the nearest two nets of what its routes cover
abbrev pub IsProbeOn : Subject → Cell → List MetalNear → Type 0
IsProbeOn subject = IsProbe subject.layer_map (IsCoveredOn subject.layer_map subject.routes)

-- the rectangles have the critical cells of this kind and size on the layer with this number, of what the subject's routes cover, and
-- none in common
abbrev pub IsRegionOn : Subject → Kind → ℕ → ℕ → List Rect → Type 0
IsRegionOn subject = IsRegion subject.layer_map (IsCoveredOn subject.layer_map subject.routes)

-- the text is a region file: the bytes of a library that has these units, and one boundary for each of the rectangles
pub record IsRegionFile (units : List ℕ) (rects : List Rect) (text : List ℕ) : Type 0 where
  pub fit : AreUnits units
  pub bytes : text ≡ spellings (written (region_library_of rects units fit))

-- the most bytes that a region file of these rectangles may have: 106, and 64 for each cell that it covers
abbrev pub region_room : List Rect → ℕ
region_room rects = 106 + 64 * cell_count rects

-- the text of a report with these rows: their lines and totals, and then what each gauge prints for the rows that it had seen
-- before, followed by these
abbrev pub whole_report : List Row → List (GaugeView Row) → List ℕ
whole_report rows gauges = report_text rows ++ texts_after rows gauges

-- what is due: the text that goes out, the rows that gauges are told, the rows of pairs that gauges of pairs are told, and of how
-- many bytes the output has to be sure so that the text cannot fail to go out
pub record Due : Type 0 where
  pub text : List ℕ
  pub rows : List Row
  pub pair_rows : List PairRow
  pub room : ℕ

-- of a report: its text and its rows, and nothing of pairs
pub record IsReportDue (subject : Subject) (gauges : List (GaugeView Row)) (due : Due) : Type 0 where
  pub are_rows : AreRowsOn subject due.rows
  pub no_pairs : due.pair_rows ≡ []
  pub text : due.text ≡ whole_report due.rows gauges
  pub room : due.room ≡ length due.text

-- of pairs of nets: their text and their rows, and no row of a report
pub record ArePairsDue (subject : Subject) (size : ℕ) (pair_gauges : List (GaugeView PairRow)) (due : Due) : Type 0 where
  pub are_pairs : ArePairRowsOn subject size due.pair_rows
  pub no_rows : due.rows ≡ []
  pub text : due.text ≡ whole_pair_text due.pair_rows pair_gauges
  pub room : due.room ≡ length due.text

-- of the probe of a cell: its text, and no row of either kind
pub record IsProbeDue (subject : Subject) (cell : Cell) (due : Due) : Type 0 where
  pub told : List MetalNear
  pub is_probe : IsProbeOn subject cell told
  pub no_rows : due.rows ≡ []
  pub no_pairs : due.pair_rows ≡ []
  pub text : due.text ≡ probe_text told
  pub room : due.room ≡ length due.text

-- of critical cells: some region file of them, since their rectangles and the order of these are left open, and no row of either kind.
-- The room is one for all such files.
pub record IsRegionDue (subject : Subject) (kind : Kind) (number size : ℕ) (due : Due) : Type 0 where
  pub rects : List Rect
  pub is_region : IsRegionOn subject kind number size rects
  pub is_file : IsRegionFile subject.units rects due.text
  pub no_rows : due.rows ≡ []
  pub no_pairs : due.pair_rows ≡ []
  pub room : due.room ≡ region_room rects

-- the same by what is asked, where the gauges are these
abbrev pub IsDueAs : Query → Subject → List (GaugeView Row) → List (GaugeView PairRow) → Due → Type 0
IsDueAs for_report subject gauges pair_gauges = IsReportDue subject gauges
IsDueAs (for_pairs size) subject gauges pair_gauges = ArePairsDue subject size.size pair_gauges
IsDueAs (for_probe cell) subject gauges pair_gauges = IsProbeDue subject cell
IsDueAs (for_region kind number size) subject gauges pair_gauges = IsRegionDue subject kind number size.size

abbrev pub IsDue : Inquiry → List (GaugeView Row) → List (GaugeView PairRow) → Due → Type 0
IsDue inquiry = IsDueAs inquiry.query inquiry.subject
