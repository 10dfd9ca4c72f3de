-- rectangles with their numbers
use Rattle.std.specs.Prelude.{List, AllPairs, Contains, Some, slice_get, ◌≤ℤ◌, ◌≡◌, ◌↔◌}
use Rattle.geo_core.specs.declared.plane.Rect.{Rect}
use Rattle.touch_sweep.specs.declared.numbered.Numbered.{Numbered}

-- exactly the rectangles of the list, each with its number
abbrev pub AreNumbered : List Rect → List Numbered → Type 0
AreNumbered rects entries = (e : Numbered) → Contains entries e ↔ (slice_get rects e.number ≡ Some e.rect)

-- in the order of their lowest rows
abbrev pub IsByRow : List Numbered → Type 0
IsByRow entries = AllPairs (λ a b. a.rect.y0 ≤ℤ b.rect.y0) entries
