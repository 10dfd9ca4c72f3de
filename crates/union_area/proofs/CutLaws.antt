-- where a window is cut, which rectangles are broad, and how far one reaches that has all of a window
use Rattle.std.proofs.Common.{ℕ, ◌*◌, ◌<◌, ◌≤◌, ◌≡◌, refl, sym, arith, inl, inr, ℤ, ◌≤ℤ◌, ◌↔◌, IsTrue, nat_le, leb-true}
use Rattle.lists.proofs.Words.{ints, by_lt_z, le-leb}
use Rattle.geo_core.specs.Plane.{Has, IsIn}
use Rattle.geo_core.specs.declared.axis.Axis.{Axis}
use Rattle.geo_core.specs.declared.axis.Axis.TheVariants.{X, Y}
use Rattle.geo_core.specs.declared.plane.Cell.{Cell}
use Rattle.geo_core.specs.declared.plane.Rect.{Rect}
use Rattle.geo_core.proofs.IntervalLaws.{IsIn-at, ends_in}
use Rattle.geo_core.proofs.RectLaws.{columns_in, rows_in}
use Rattle.union_area.specs.WindowParts.{AreCutAt, AreParts, HasAllOf, IsBetween, IsBroad, count_along, place_along}

-- ---- the two parts before a place and behind it

-- the sides of a rectangle
pub record HasEnds (rect : Rect) (x0 y0 x1 y1 : ℤ) : Type 0 where
  pub left : x0 ≡ rect.x0
  pub bottom : y0 ≡ rect.y0
  pub right : x1 ≡ rect.x1
  pub top : y1 ≡ rect.y1

module _ {rect : Rect} {x0 y0 x1 y1 : ℤ} (s : HasEnds rect x0 y0 x1 y1) (c : Cell) where
  pub by_ends : Has rect c → IsIn x0 x1 c.i × IsIn y0 y1 c.j
  by_ends h = (IsIn-at x0 x1 c.i h.across s.left s.right refl, IsIn-at y0 y1 c.j h.up s.bottom s.top refl)

  pub from_ends : IsIn x0 x1 c.i → IsIn y0 y1 c.j → Has rect c
  from_ends across up = record { across = IsIn-at rect.x0 rect.x1 c.i across (sym s.left) (sym s.right) refl; up = IsIn-at rect.y0 rect.y1 c.j up (sym s.bottom) (sym s.top) refl }

module _ (window first second : Rect) (place : ℤ) where
  pub cut_across : IsBetween window.x0 window.x1 place → HasEnds first window.x0 window.y0 place window.y1
      → HasEnds second place window.y0 window.x1 window.y1 → AreCutAt X place window first second
  cut_across between s t =
      let above = between.above in let below = between.below in
      record {
        before = λ c. (
          λ h. let e = by_ends s c h in let a = e.0.from in let b = e.0.before in
              (record { across = record { from = a; before = omega (arith, ints) }; up = e.1 }, b),
          λ h. let a = h.0.across.from in from_ends s c (record { from = a; before = h.1 }) h.0.up,
        );
        behind = λ c. (
          λ h. let e = by_ends t c h in let a = e.0.from in let b = e.0.before in
              (record { across = record { from = omega (arith, ints); before = b }; up = e.1 }, a),
          λ h. let b = h.0.across.before in from_ends t c (record { from = h.1; before = b }) h.0.up,
        );
      }

  pub cut_up : IsBetween window.y0 window.y1 place → HasEnds first window.x0 window.y0 window.x1 place
      → HasEnds second window.x0 place window.x1 window.y1 → AreCutAt Y place window first second
  cut_up between s t =
      let above = between.above in let below = between.below in
      record {
        before = λ c. (
          λ h. let e = by_ends s c h in let a = e.1.from in let b = e.1.before in
              (record { across = e.0; up = record { from = a; before = omega (arith, ints) } }, b),
          λ h. let a = h.0.up.from in from_ends s c h.0.across (record { from = a; before = h.1 }),
        );
        behind = λ c. (
          λ h. let e = by_ends t c h in let a = e.1.from in let b = e.1.before in
              (record { across = e.0; up = record { from = omega (arith, ints); before = b } }, a),
          λ h. let b = h.0.up.before in from_ends t c h.0.across (record { from = h.1; before = b }),
        );
      }

-- what a place cuts in two has these two as its parts
pub parts_of_cut : (axis : Axis) (place : ℤ) (window first second : Rect) → AreCutAt axis place window first second → AreParts window first second
parts_of_cut axis place window first second cut = record {
  cells = λ c. (
    λ h. by_lt_z (place_along axis c) place (λ l. inl ((cut.before c).1 (h, l))) (λ l. inr ((cut.behind c).1 (h, l))),
    λ h. elim h [ inl k ↦ ((cut.before c).0 k).0 | inr k ↦ ((cut.behind c).0 k).0 ],
  );
  apart = λ c h k. let a = ((cut.before c).0 h).1 in let b = ((cut.behind c).0 k).1 in absurd (omega (arith, ints));
}

-- ---- which rectangles are broad

module _ (rect : Rect) (width height : ℕ) (across : count_along X rect ≡ width) (up : count_along Y rect ≡ height) where
  -- one whose width is no more than four times its height is broad just where its height is no more than four times its width
  pub broad_by : width ≤ 4 * height → IsTrue (nat_le height (4 * width)) ↔ IsBroad rect
  broad_by wide = (
    λ t. let h = leb-true height (4 * width) t in record { wide = rw (across, up) wide; high = rw (across, up) h },
    λ broad. le-leb height (4 * width) (rw (across, up) at broad.high),
  )

  -- and no other is
  pub not_broad : 4 * height < width → IsTrue (nat_le width (4 * height)) ↔ IsBroad rect
  not_broad narrow = (
    λ t. let h = leb-true width (4 * height) t in absurd (omega arith),
    λ broad. let wide = rw (across, up) at broad.wide in absurd (omega arith),
  )

-- ---- a rectangle that has all of the window reaches as far as the window does

pub ends_across : (window rect : Rect) → HasAllOf window rect → (rect.x0 ≤ℤ window.x0) × (window.x1 ≤ℤ rect.x1)
ends_across window rect all = ends_in window.x0 window.x1 rect.x0 rect.x1 window.across.some (columns_in window rect all)

pub ends_up : (window rect : Rect) → HasAllOf window rect → (rect.y0 ≤ℤ window.y0) × (window.y1 ≤ℤ rect.y1)
ends_up window rect all = ends_in window.y0 window.y1 rect.y0 rect.y1 window.up.some (rows_in window rect all)
