-- What is said of a rectangle fits where it is written.
use Rattle.std.proofs.Common.{ℤ, [], ◌∷◌, All, arith, codes, lit<, FitsSigned, w32}
use Rattle.lists.proofs.Words.{All-cons, All-nil, ints}
use Rattle.lists.specs.ByteLists.{IsByte, AreBytes}
use Rattle.geo_core.specs.Plane.{IsInterval, circuit}
use Rattle.geo_core.specs.declared.bounds.TheConstants.{FARTHEST_GROWN}
use Rattle.geo_core.specs.declared.plane.Point.{Point}
use Rattle.geo_core.specs.declared.plane.Rect.{Rect}
use Rattle.library_model.specs.Ranges.{IsPoint, ArePoints}
use Rattle.outlines.specs.Rectangles.{rectangle_corners}

-- what holds of four items holds of their list
pub four_hold : {X : Type 0} (P : X → Type 0) (a b c d : X) → P a → P b → P c → P d → All P (a ∷ b ∷ c ∷ d ∷ [])
four_hold P a b c d of_a of_b of_c of_d =
    All-cons P a (b ∷ c ∷ d ∷ []) of_a (All-cons P b (c ∷ d ∷ []) of_b (All-cons P c (d ∷ []) of_c (All-cons P d [] of_d (All-nil P))))

-- the name is of bytes
pub name_fits : AreBytes (codes "CRIT")
name_fits = four_hold IsByte 67 82 73 84 (lit< tt) (lit< tt) (lit< tt) (lit< tt)

-- the ends of an interval fit four bytes
pub low_fits : (low high : ℤ) → IsInterval FARTHEST_GROWN low high → FitsSigned w32 low
low_fits low high is = let some = is.some in let least = is.least in let most = is.most in omega (arith, ints)

pub high_fits : (low high : ℤ) → IsInterval FARTHEST_GROWN low high → FitsSigned w32 high
high_fits low high is = let some = is.some in let least = is.least in let most = is.most in omega (arith, ints)

-- so do the points of a rectangle's outline
pub outline_fits : (rect : Rect) → ArePoints (circuit (rectangle_corners rect))
outline_fits rect =
    let left = low_fits rect.x0 rect.x1 rect.across in
    let right = high_fits rect.x0 rect.x1 rect.across in
    let bottom = low_fits rect.y0 rect.y1 rect.up in
    let top = high_fits rect.y0 rect.y1 rect.up in
    let first : Point = record { x = rect.x0; y = rect.y0 } in
    let second : Point = record { x = rect.x1; y = rect.y0 } in
    let third : Point = record { x = rect.x1; y = rect.y1 } in
    let fourth : Point = record { x = rect.x0; y = rect.y1 } in
    let begins : IsPoint first = record { across = left; up = bottom } in
    All-cons IsPoint first (second ∷ third ∷ fourth ∷ first ∷ []) begins
    (four_hold IsPoint second third fourth first (record { across = right; up = bottom }) (record { across = right; up = top })
    (record { across = left; up = top }) begins)
