-- an example: an array that is mirrored and turned, and a placement of it that is turned, too
use Rattle.std.specs.Prelude.{pos, negsuc, true, false, List, [], ◌∷◌, Some, None}
use Rattle.std.proofs.Common.{lit<, lit≤}
use Rattle.std.proofs.Math.Facts.{sfits_lit}
use Rattle.std.proofs.lemmas.List.Elements.{All-nil}
use Rattle.geo_core.specs.declared.plane.Point.{Point}
use Rattle.library_model.specs.declared.element.Lattice.{Lattice}
use Rattle.library_model.specs.declared.element.Reference.{Reference}
use Rattle.flatten.specs.Steps.{Step}

-- two columns, 10 apart to the right, and two rows, 20 apart upwards
abbrev pub two_by_two : Lattice
two_by_two = record {
  columns = 2;
  rows = 2;
  column_step = (pos 10, pos 0);
  row_step = (pos 0, pos 20);
  some_columns = lit≤ tt;
  few_columns = lit< tt;
  some_rows = lit≤ tt;
  few_rows = lit< tt;
  column_step_fits = record { across = lit≤ tt; up = lit≤ tt };
  row_step_fits = record { across = lit≤ tt; up = lit≤ tt };
}

-- a reference that makes them: it mirrors, turns by a quarter, and begins at (100, 50)
abbrev pub mirrored_array : Reference
mirrored_array = record {
  at = 0;
  target = [];
  turn = record { reflect = true; quarters = 1; whole = lit< tt };
  origin = record { x = pos 100; y = pos 50 };
  lattice = Some two_by_two;
  target_fits = All-nil _;
  origin_fits = record { across = sfits_lit tt; up = sfits_lit tt };
}

-- a step that turns by a quarter and shifts by nothing
abbrev pub quarter_step : Step
quarter_step = record {
  reference = record {
    at = 0;
    target = [];
    turn = record { reflect = false; quarters = 1; whole = lit< tt };
    origin = record { x = pos 0; y = pos 0 };
    lattice = None;
    target_fits = All-nil _;
    origin_fits = record { across = sfits_lit tt; up = sfits_lit tt };
  };
  column = 0;
  row = 0;
}

-- the point (3, 1) of the structure that is placed
abbrev pub corner : Point
corner = record { x = pos 3; y = pos 1 }

-- Where the array places it. Mirrored it is (3, -1), and turned (1, 3). Columns go to the right and rows go up, although the
-- structure is turned.
abbrev pub placed_corners : List Point
placed_corners =
    record { x = pos 101; y = pos 53 } ∷ record { x = pos 111; y = pos 53 }
    ∷ record { x = pos 101; y = pos 73 } ∷ record { x = pos 111; y = pos 73 } ∷ []

-- Where the turned placement of the array places it: each of those points turned, so that columns go up and rows to the left.
abbrev pub turned_corners : List Point
turned_corners =
    record { x = negsuc 52; y = pos 101 } ∷ record { x = negsuc 52; y = pos 111 }
    ∷ record { x = negsuc 72; y = pos 101 } ∷ record { x = negsuc 72; y = pos 111 } ∷ []
