-- what a region file reads as: a library that covers the critical cells of a row
use Rattle.std.proofs.Common.{ℕ, ◌≡◌, ◌≤◌, ◌↔◌, sym, subst, List, length, Contains, Option, Some, slice_get}
use Rattle.first_refusal.specs.Outcomes.{value}
use Rattle.geo_core.specs.Plane.{IsInUnion}
use Rattle.geo_core.specs.declared.plane.Cell.{Cell}
use Rattle.geo_core.specs.declared.plane.Rect.{Rect}
use Rattle.fault_model.specs.FaultNames.{IsCovered, Tally, cells_of_window}
use Rattle.fault_model.proofs.WindowLaws.{agree}
use Rattle.map_model.specs.MapNames.{reach_of}
use Rattle.questions.specs.Questions.{questions}
use Rattle.questions.specs.declared.kind.Kind.{Kind}
use Rattle.questions.specs.declared.question.Question.{Question}
use Rattle.questions.specs.declared.row.Row.{Row}
use Rattle.layout_regions.specs.Regions.{cell_count}
use Rattle.layout_regions.proofs.laws.CountLaws.{tally_is_count}
use Rattle.layout_regions.proofs.laws.RegionLaws.{area_at_place}
use Rattle.library_grammar.specs.FirstFault.{BytesComeTo}
use Rattle.library_grammar.proofs.laws.Libraries.{libraries_agree}
use Rattle.library_model.specs.declared.library.Library.{Library}
use Rattle.gds_write.specs.SameLibrary.{IsSameButOffsets}
use Rattle.region_out.specs.RegionCells.{IsCoveredByTop}
use Rattle.region_out.specs.RegionLibraries.{region_library_of}
use Rattle.region_out.proofs.laws.RegionBytes.{library_reads}
use Rattle.critarea_core.specs.Coverage.{IsCoveredOn}
use Rattle.critarea_core.specs.Outputs.{AreRowsOn, Due, IsRegionDue}
use Rattle.critarea_core.specs.Layout.{Subject}
use Rattle.critarea_core.proofs.RegionLaws.{region_has_room}
use Rattle.run_laws.specs.SubjectFaults.{IsFaultOn, IsWindowOn}
use Rattle.run_laws.proofs.region_files.ReadRegions.{read_covers}

module _ (subject : Subject) (kind : Kind) (number size : ℕ) (due : Due) (is : IsRegionDue subject kind number size due) where
  pub file_fits : length due.text ≤ due.room
  file_fits = region_has_room subject.units is.rects due.text due.room is.is_file is.room

  -- it reads as its library, but for offsets
  reads_alike : (read : Library) × IsSameButOffsets (region_library_of is.rects subject.units is.is_file.fit) read
      × BytesComeTo due.text (value read)
  reads_alike =
      let reads = library_reads is.rects subject.units is.is_file.fit in
      (reads.0, reads.1, subst (λ (bytes : List ℕ). BytesComeTo bytes (value reads.0)) (sym is.is_file.bytes) reads.2)

  pub file_reads : (read : Library) × BytesComeTo due.text (value read)
  file_reads = (reads_alike.0, reads_alike.2)

  -- the rectangles have the critical cells of each window of the subject, since there is one at most
  rects_in_window : (window : Option Rect) (c : Cell) → IsWindowOn subject window
      → IsInUnion is.rects c ↔ (Contains (cells_of_window window) c × IsFaultOn subject kind number size c)
  rects_in_window window c is_window =
      let region = is.is_region in
      let covered = IsCovered (IsCoveredOn subject.layer_map subject.routes) in
      let cells = agree covered (reach_of subject.layer_map) region.window window region.is_window is_window in
      subst (λ (listed : List Cell). IsInUnion is.rects c ↔ (Contains listed c × IsFaultOn subject kind number size c)) cells
      (region.cells c)

  module _ (read : Library) (comes : BytesComeTo due.text (value read)) where
    -- bytes read as one library at most, so the one that was read covers the rectangles
    covers_rects : (c : Cell) → IsCoveredByTop read.structures 1 0 c ↔ IsInUnion is.rects c
    covers_rects c =
        let written = region_library_of is.rects subject.units is.is_file.fit in
        let same : reads_alike.0 ≡ read = cc (libraries_agree due.text (value reads_alike.0) (value read) reads_alike.2 comes) in
        let alike = subst (λ (other : Library). IsSameButOffsets written other) same reads_alike.1 in
        read_covers is.rects subject.units is.is_file.fit read c alike

    module _ (window : Option Rect) (is_window : IsWindowOn subject window) where
      pub file_covers : (c : Cell) → IsCoveredByTop read.structures 1 0 c
          ↔ (Contains (cells_of_window window) c × IsFaultOn subject kind number size c)
      file_covers c =
          let by_top = covers_rects c in
          let critical = rects_in_window window c is_window in
          (λ covered. critical.0 (by_top.0 covered), λ is_critical. by_top.1 (critical.1 is_critical))

      -- as many as the rectangles have
      pub file_count : Tally (IsCoveredByTop read.structures 1 0) (cells_of_window window) (cell_count is.rects)
      file_count =
          tally_is_count window is.rects is.is_region.apart
          (λ c. (
            λ has. (((rects_in_window window c is_window).0 has).0, (covers_rects c).1 has),
            λ covered. (covers_rects c).0 covered.1,
          ))

-- and so as many as the row says
module _ (subject : Subject) (rows : List Row) (answered : AreRowsOn subject rows) where
  pub row_counts : (k : ℕ) (question : Question) (row : Row) (due : Due) (read : Library) (window : Option Rect)
      → slice_get (questions subject.layer_map) k ≡ Some question → slice_get rows k ≡ Some row
      → IsRegionDue subject question.kind question.number question.size due → BytesComeTo due.text (value read)
      → IsWindowOn subject window
      → Tally (IsCoveredByTop read.structures 1 0) (cells_of_window window) row.area
  row_counts k question row due read window asks at is comes is_window =
      let covers = IsCoveredOn subject.layer_map subject.routes in
      let area = area_at_place subject.layer_map covers rows answered is.rects k question row asks at is.is_region in
      subst (Tally (IsCoveredByTop read.structures 1 0) (cells_of_window window)) (sym area)
      (file_count subject question.kind question.number question.size due is read comes window is_window)
