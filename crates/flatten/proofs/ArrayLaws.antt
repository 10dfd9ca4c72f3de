-- the steps of an array, by their columns and rows
use Rattle.std.proofs.Common.{ℕ, ◌+◌, ◌*◌, ◌<◌, ◌≡◌, List, [], ◌∷◌, length, length-append, get_or, take, Some, sym, ap, ◌∙◌, arith, slice_get}
use Rattle.lists.proofs.Words.{flat_map, range_with_len, length-take-le, length-range_with_len, length-map-range_with_len, get_or-range_with_len, get_or-map-range_with_len, slice_get-get_or}
use Rattle.std.proofs.Math.Nat.{mul-le-mul_right}
use Rattle.std.proofs.lemmas.List.Concat.{get_or-flat_map}
use Rattle.library_model.specs.declared.element.Reference.{Reference}
use Rattle.flatten.specs.Steps.{Step, steps_of, steps_in_row, rows_of, columns_of}

module _ (reference : Reference) where
  row_long : (row : ℕ) → length (steps_in_row reference row) ≡ columns_of reference.lattice
  row_long row = length-map-range_with_len _ 0 (columns_of reference.lattice)

  -- so many rows have so many steps
  rows_long : (rows : List ℕ) → length (flat_map (steps_in_row reference) rows) ≡ length rows * columns_of reference.lattice
  rows_long [] = omega arith
  rows_long (row ∷ rows) = rw (length-append, row_long row, rows_long rows) (omega arith)

  pub steps_long : length (steps_of reference) ≡ rows_of reference.lattice * columns_of reference.lattice
  steps_long = rows_long (range_with_len 0 (rows_of reference.lattice)) ∙ ap (λ n. n * columns_of reference.lattice) (length-range_with_len 0 (rows_of reference.lattice))

  module _ (column row : ℕ) (columns : column < columns_of reference.lattice) (rows : row < rows_of reference.lattice) where
    abbrev step_there : Step
    step_there = record { reference = reference; column = column; row = row }

    abbrev all_rows : List ℕ
    all_rows = range_with_len 0 (rows_of reference.lattice)

    -- its row is the row of this number
    here : get_or all_rows row 0 ≡ row
    here = get_or-range_with_len 0 (rows_of reference.lattice) row 0 rows ∙ omega arith

    in_row : get_or (steps_in_row reference row) column step_there ≡ step_there
    in_row = get_or-map-range_with_len (λ c. let step : Step = record { reference = reference; column = c; row = row } in step) 0 (columns_of reference.lattice) column column step_there columns
        (omega arith)

    -- and so many steps stand before it
    before : length (flat_map (steps_in_row reference) (take row all_rows)) ≡ row * columns_of reference.lattice
    before = rw (rows_long (take row all_rows), length-take-le row all_rows (omega (arith, length-range_with_len 0 (rows_of reference.lattice))))

    within : row * columns_of reference.lattice + column < length (steps_of reference)
    within = omega (arith, steps_long, mul-le-mul_right (columns_of reference.lattice) rows)

    found : get_or (steps_of reference) (row * columns_of reference.lattice + column) step_there ≡ step_there
    found =
        ap (λ n. get_or (steps_of reference) (n + column) step_there) (sym before)
        ∙ get_or-flat_map (steps_in_row reference) all_rows row column 0 step_there (omega (arith, length-range_with_len 0 (rows_of reference.lattice)))
        (omega (arith, row_long (get_or all_rows row 0)))
        ∙ ap (λ r. get_or (steps_in_row reference r) column step_there) here ∙ in_row

    pub stands_there : slice_get (steps_of reference) (row * columns_of reference.lattice + column) ≡ Some step_there
    stands_there = slice_get-get_or (steps_of reference) (row * columns_of reference.lattice + column) step_there within ∙ ap Some found
