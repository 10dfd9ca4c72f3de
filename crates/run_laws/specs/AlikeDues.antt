-- what is due of one inquiry is alike: byte for byte, or for region files cell for cell
use Rattle.std.specs.Prelude.{ℕ, List, ◌≡◌, ◌↔◌}
use Rattle.geo_core.specs.Plane.{IsInUnion}
use Rattle.geo_core.specs.declared.plane.Cell.{Cell}
use Rattle.geo_core.specs.declared.plane.Rect.{Rect}
use Rattle.critarea_core.specs.Outputs.{Due, IsRegionFile}
use Rattle.critarea_core.specs.Inquiries.{Inquiry}
use Rattle.run_inputs.specs.declared.query.Query.{Query}
use Rattle.run_inputs.specs.declared.query.Query.TheVariants.{Report as for_report, Pairs as for_pairs, Probe as for_probe, Region as for_region}

-- the critical cells of a row are asked for
abbrev pub IsForRegions : Query → Type 0
IsForRegions for_report = ⊥
IsForRegions (for_pairs size) = ⊥
IsForRegions (for_probe cell) = ⊥
IsForRegions (for_region kind number size) = Unit {0}

-- both texts are region files with these units, of rectangles that have the same cells
pub record AreAlikeFiles (units text other : List ℕ) : Type 0 where
  pub rects : List Rect
  pub others : List Rect
  pub is_file : IsRegionFile units rects text
  pub is_other : IsRegionFile units others other
  pub same : (c : Cell) → IsInUnion rects c ↔ IsInUnion others c

-- the texts are equal, or where regions are asked for, such files
abbrev pub AreAlikeTexts : Query → List ℕ → List ℕ → List ℕ → Type 0
AreAlikeTexts for_report units text other = text ≡ other
AreAlikeTexts (for_pairs size) units text other = text ≡ other
AreAlikeTexts (for_probe cell) units text other = text ≡ other
AreAlikeTexts (for_region kind number size) units text other = AreAlikeFiles units text other

-- the two have texts that are alike, and the rows that gauges are told and the room are the same
pub record AreAlikeDue (inquiry : Inquiry) (due other : Due) : Type 0 where
  pub texts : AreAlikeTexts inquiry.query inquiry.subject.units due.text other.text
  pub rows : due.rows ≡ other.rows
  pub pair_rows : due.pair_rows ≡ other.pair_rows
  pub room : due.room ≡ other.room
