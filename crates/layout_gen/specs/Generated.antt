-- the layout that is generated: a cell, and an array of it
use Rattle.std.specs.Prelude.{ℕ, pos, false, codes, List, [], ◌∷◌, ◌++◌, Some, IsTrue, refl, max, min}
use Rattle.std.proofs.Common.{lit<, lit≤}
use Rattle.std.proofs.Math.Facts.{sfits_lit}
use Rattle.std.proofs.Math.Nat.{le-max_left}
use Rattle.lists.specs.Words.{concat}
use Rattle.gds_records.specs.RecordSpelling.{spellings}
use Rattle.gds_write.specs.Written.{written}
use Rattle.library_model.specs.declared.element.Element.TheVariants.{Shape as shape_element, Reference as reference_element}
use Rattle.library_model.specs.declared.element.Lattice.{Lattice}
use Rattle.library_model.specs.declared.element.Reference.{Reference}
use Rattle.library_model.specs.declared.element.Shape.{Shape}
use Rattle.library_model.specs.declared.element.ShapeKind.TheVariants.{Boundary}
use Rattle.library_model.specs.declared.library.Library.{Library}
use Rattle.library_model.specs.declared.library.Structure.{Structure}
use Rattle.layout_gen.specs.SmallOutlines.{corner, outline, are_small}
use Rattle.layout_gen.specs.Fitting.{are_bytes, small_layer, small_outline, few_columns}

-- the boundary of [0,right)x[bottom,top) on this layer, with the datatype 0
abbrev pub boundary : (layer right bottom top : ℕ) → IsTrue (are_small (layer ∷ right ∷ bottom ∷ top ∷ [])) → Shape
boundary layer right bottom top small = record {
  at = 0;
  kind = Boundary;
  layer = layer;
  datatype = 0;
  points = outline right bottom top;
  kind_fits = tt;
  layer_fits = small_layer layer right bottom top small;
  datatype_fits = lit< tt;
  points_fit = small_outline layer right bottom top small;
}

-- the cell: two wires on layer 1, one above the other, and one on layer 3 that crosses their left ends. A cut on layer 2 joins
-- this one to the lower of the two.
abbrev pub cell : Structure
cell = record {
  at = 0;
  name = codes "CELL";
  elements =
      shape_element (boundary 1 12 0 4 refl) ∷ shape_element (boundary 1 12 8 12 refl)
      ∷ shape_element (boundary 2 2 0 2 refl) ∷ shape_element (boundary 3 4 0 12 refl) ∷ [];
  name_fits = are_bytes (codes "CELL") refl;
}

-- how many columns there are, and how many rows: as many as are asked for, from 1 to 500
abbrev pub columns_of : ℕ → ℕ
columns_of asked = max 1 (min asked 500)

-- the columns, each 20 to the right of the one before, and the rows, each 20 above the one before
abbrev pub lattice : ℕ → Lattice
lattice asked = record {
  columns = columns_of asked;
  rows = columns_of asked;
  column_step = (pos 20, pos 0);
  row_step = (pos 0, pos 20);
  some_columns = le-max_left 1 (min asked 500);
  few_columns = few_columns asked;
  some_rows = le-max_left 1 (min asked 500);
  few_rows = few_columns asked;
  column_step_fits = record { across = lit≤ tt; up = lit≤ tt };
  row_step_fits = record { across = lit≤ tt; up = lit≤ tt };
}

-- the array of the cell, which begins at the origin
abbrev pub cell_array : ℕ → Reference
cell_array asked = record {
  at = 0;
  target = codes "CELL";
  turn = record { reflect = false; quarters = 0; whole = lit< tt };
  origin = corner 0 0;
  lattice = Some (lattice asked);
  target_fits = are_bytes (codes "CELL") refl;
  origin_fits = record { across = sfits_lit tt; up = sfits_lit tt };
}

-- the structure that has the array, and nothing else
abbrev pub top : ℕ → Structure
top asked = record {
  at = 0;
  name = codes "TOP";
  elements = reference_element (cell_array asked) ∷ [];
  name_fits = are_bytes (codes "TOP") refl;
}

-- 1 as an eight-byte real
abbrev pub real_one : List ℕ
real_one = 0x41 ∷ 0x10 ∷ 0 ∷ 0 ∷ 0 ∷ 0 ∷ 0 ∷ 0 ∷ []

-- the database unit, in user units and in metres
abbrev pub units : List ℕ
units = real_one ++ real_one

-- the library with so many columns and rows
abbrev pub generated_library : ℕ → Library
generated_library asked = record {
  name = codes "GEN";
  units = units;
  structures = cell ∷ top asked ∷ [];
  name_fits = are_bytes (codes "GEN") refl;
  units_count = refl;
  units_fit = are_bytes units refl;
}

-- the bytes that it is written as
unfoldable pub generated_layout : ℕ → List ℕ
generated_layout asked = spellings (written (generated_library asked))

-- the text of the layer map that goes with each of them
unfoldable pub generated_map : List ℕ
generated_map = concat (
    codes "version = 1\n" ∷ codes "radii = [2, 5]\n" ∷ codes "weights = [10, 1]\n"
    ∷ codes "[[metal]]\n" ∷ codes "name = \"m1\"\n" ∷ codes "pairs = [[1, 0]]\n"
    ∷ codes "[[metal]]\n" ∷ codes "name = \"m2\"\n" ∷ codes "pairs = [[3, 0]]\n"
    ∷ codes "[[cut]]\n" ∷ codes "name = \"v1\"\n" ∷ codes "pairs = [[2, 0]]\n" ∷ codes "lower = \"m1\"\n" ∷ codes "upper = \"m2\"\n"
    ∷ codes "[[terminal]]\n" ∷ codes "metal = \"m1\"\n" ∷ codes "x = 0\n" ∷ codes "y = 0\n"
    ∷ codes "[[terminal]]\n" ∷ codes "metal = \"m1\"\n" ∷ codes "x = 11\n" ∷ codes "y = 3\n" ∷ [])
