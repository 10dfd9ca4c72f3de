-- rectangles as a library: one boundary for each of them
use Rattle.std.specs.Prelude.{ℕ, List, [], ◌∷◌, map, length, codes, ◌≡◌}
use Rattle.std.proofs.Common.{lit<}
use Rattle.lists.specs.ByteLists.{AreBytes}
use Rattle.geo_core.specs.Plane.{circuit}
use Rattle.geo_core.specs.declared.plane.Rect.{Rect}
use Rattle.outlines.specs.Rectangles.{rectangle_corners}
use Rattle.library_model.specs.declared.element.Element.{Element}
use Rattle.library_model.specs.declared.element.Element.TheVariants.{Shape as shape_element}
use Rattle.library_model.specs.declared.element.Shape.{Shape}
use Rattle.library_model.specs.declared.element.ShapeKind.TheVariants.{Boundary}
use Rattle.library_model.specs.declared.library.Library.{Library}
use Rattle.library_model.specs.declared.library.Structure.{Structure}
use Rattle.region_out.specs.RegionFits.{name_fits, outline_fits}

-- the list is a body of UNITS: sixteen bytes
pub record AreUnits (units : List ℕ) : Type 0 where
  pub count : length units ≡ 16
  pub bytes : AreBytes units

-- those of a library are such
abbrev pub units_of : (library : Library) → AreUnits library.units
units_of library = record { count = library.units_count; bytes = library.units_fit }

-- the boundary of a rectangle: its corners, counterclockwise from the lower left, and the first again
abbrev pub region_boundary : Rect → Shape
region_boundary rect = record {
  at = 0;
  kind = Boundary;
  layer = 1;
  datatype = 0;
  points = circuit (rectangle_corners rect);
  kind_fits = tt;
  layer_fits = lit< tt;
  datatype_fits = lit< tt;
  points_fit = outline_fits rect;
}

-- as an element
abbrev pub region_element : Rect → Element
region_element rect = shape_element (region_boundary rect)

-- the structure that has them
abbrev pub region_structure : List Rect → Structure
region_structure rects = record { at = 0; name = codes "CRIT"; elements = map region_element rects; name_fits = name_fits }

-- the library of the rectangles, with these units
abbrev pub region_library_of : List Rect → (units : List ℕ) → AreUnits units → Library
region_library_of rects units fit = record {
  name = codes "CRIT";
  units = units;
  structures = region_structure rects ∷ [];
  name_fits = name_fits;
  units_count = fit.count;
  units_fit = fit.bytes;
}
