-- an outline that is shifted winds round the shifted cells
use Rattle.std.proofs.Common.{◌≡◌, refl, sym, ap, ◌∙◌, List, [], ◌∷◌, map, arith, ℤ, pos, ◌+ℤ◌, ◌-ℤ◌, int_le}
use Rattle.lists.proofs.Words.{ints}
use Rattle.geo_core.specs.declared.plane.Point.{Point}
use Rattle.geo_core.specs.declared.plane.Cell.{Cell}
use Rattle.outlines.specs.Outlines.{winding_number}
use Rattle.outlines.specs.Sights.{shifted_cell}
use Rattle.outlines.proofs.WindLaws.{place_of, counted, left_rises, left_falls, winds_by_places}

le_shifted : (a b d : ℤ) → int_le (a +ℤ d) (b +ℤ d) ≡ int_le a b
le_shifted a b d = grind (arith, ints)

module _ (by : Point) where
  -- the point, shifted by as much as the other lies from the origin
  abbrev pub shifted_point : Point → Point
  shifted_point p = record { x = p.x +ℤ by.x; y = p.y +ℤ by.y }

  place_kept : (c : Cell) (p : Point) → place_of (shifted_cell by c) (shifted_point p) ≡ place_of c p
  place_kept c p = ap (λ b. (b, int_le (p.y +ℤ by.y) (c.j +ℤ by.y))) (le_shifted p.x c.i by.x) ∙ ap (λ b. (int_le p.x c.i, b)) (le_shifted p.y c.j by.y)

  places_kept : (c : Cell) (points : List Point) → map (place_of (shifted_cell by c)) (map shifted_point points) ≡ map (place_of c) points
  places_kept c [] = refl
  places_kept c (p ∷ points) = let e = place_kept c p in let r = places_kept c points in cc

  pub winding_shifted : (points : List Point) (c : Cell) → winding_number (map shifted_point points) (shifted_cell by c) ≡ winding_number points c
  winding_shifted points c =
      winds_by_places (shifted_cell by c) (map shifted_point points)
      ∙ ap (λ l. pos (counted left_rises l) -ℤ pos (counted left_falls l)) (places_kept c points)
      ∙ sym (winds_by_places c points)
