-- the window of a subject, and its faults
use Rattle.std.specs.Prelude.{ℕ, Option}
use Rattle.geo_core.specs.declared.plane.Cell.{Cell}
use Rattle.geo_core.specs.declared.plane.Rect.{Rect}
use Rattle.map_model.specs.MapNames.{side_by}
use Rattle.questions.specs.declared.kind.Kind.{Kind}
use Rattle.area_parts.specs.FaultKinds.{IsFault}
use Rattle.area_parts.specs.Rows.{IsWindowFor}
use Rattle.critarea_core.specs.Coverage.{IsCoveredOn}
use Rattle.critarea_core.specs.Layout.{Subject}

-- the window of what the subject's routes cover
abbrev pub IsWindowOn : Subject → Option Rect → Type 0
IsWindowOn subject = IsWindowFor subject.layer_map (IsCoveredOn subject.layer_map subject.routes)

-- a defect of this size at the cell makes this fault on the metal or at the cut with this number, of what the subject's routes cover
abbrev pub IsFaultOn : Subject → Kind → ℕ → ℕ → Cell → Type 0
IsFaultOn subject kind number size =
    IsFault subject.layer_map (IsCoveredOn subject.layer_map subject.routes) kind number (side_by subject.layer_map.measure size)
