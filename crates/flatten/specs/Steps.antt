-- the steps of a placement, and where they move a point
use Rattle.std.specs.Prelude.{ℕ, pos, ◌+ℤ◌, ◌*ℤ◌, List, [], ◌∷◌, map, flat_map, Option, Some, None}
use Rattle.lists.specs.Words.{range_with_len}
use Rattle.geo_core.specs.Plane.{image_under}
use Rattle.geo_core.specs.declared.plane.Point.{Point}
use Rattle.library_model.specs.declared.element.Lattice.{Lattice}
use Rattle.library_model.specs.declared.element.Reference.{Reference}

-- a step from one structure to another: one copy of those that a reference makes, by its column and its row
pub record Step : Type 0 where
  pub reference : Reference
  pub column : ℕ
  pub row : ℕ

-- how many columns of copies a reference makes: one, unless it is an array
abbrev pub columns_of : Option Lattice → ℕ
columns_of None = 1
columns_of (Some lattice) = lattice.columns

-- how many rows
abbrev pub rows_of : Option Lattice → ℕ
rows_of None = 1
rows_of (Some lattice) = lattice.rows

-- the copies of one row, column by column
abbrev pub steps_in_row : Reference → ℕ → List Step
steps_in_row reference row = map (λ column. record { reference = reference; column = column; row = row })
    (range_with_len 0 (columns_of reference.lattice))

-- all copies that a reference makes, row by row
abbrev pub steps_of : Reference → List Step
steps_of reference = flat_map (steps_in_row reference) (range_with_len 0 (rows_of reference.lattice))

-- the point, shifted by as much as the other lies from the origin
abbrev pub shifted : Point → Point → Point
shifted by p = record { x = p.x +ℤ by.x; y = p.y +ℤ by.y }

-- how far the copy in this column and row lies from the first of an array: neither step is turned
abbrev pub lattice_shift : Option Lattice → ℕ → ℕ → Point
lattice_shift None column row = record { x = pos 0; y = pos 0 }
lattice_shift (Some lattice) column row = record {
  x = (pos column *ℤ lattice.column_step.0) +ℤ (pos row *ℤ lattice.row_step.0);
  y = (pos column *ℤ lattice.column_step.1) +ℤ (pos row *ℤ lattice.row_step.1);
}

-- how far a step shifts: to the origin of the reference, and from there to its column and row
abbrev pub shift_of : Step → Point
shift_of step = shifted step.reference.origin (lattice_shift step.reference.lattice step.column step.row)

-- where a step moves a point: it turns it, and then it shifts it
abbrev pub moved_by : Step → Point → Point
moved_by step p = shifted (shift_of step) (image_under step.reference.turn p)

-- where steps move a point, of which the last moves it first
abbrev pub moved_along : List Step → Point → Point
moved_along [] p = p
moved_along (step ∷ steps) p = moved_by step (moved_along steps p)
