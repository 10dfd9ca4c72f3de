-- skylines: finished rectangles, and active ones of which at most one lies over each column
use Rattle.std.specs.Prelude.{ℤ, List, All, Contains, Some, length, ◌+◌, ◌≤◌, ◌++◌, ◌∷◌, [], ◌≤ℤ◌, ◌<ℤ◌, ◌≡◌, ◌⊎◌, ◌↔◌}
use Rattle.std.specs.BTreeMap.{get}
use Rattle.std.specs.Ordering.{int_cmp}
use Rattle.geo_core.specs.Plane.{Has, IsIn, IsInUnion}
use Rattle.geo_core.specs.declared.plane.Cell.{Cell}
use Rattle.geo_core.specs.declared.plane.Rect.{Rect}
use Rattle.skyline_runs.specs.Runs.{AreApart}
use Rattle.skyline_runs.specs.declared.skyline.Skyline.{Skyline}

-- the rectangle is one of the active ones, which are found by their leftmost columns
abbrev pub IsActiveIn : Skyline → Rect → Type 0
IsActiveIn skyline rect = get int_cmp skyline.active rect.x0 ≡ Some rect

-- the rectangle is one of the finished ones
abbrev pub IsDoneIn : Skyline → Rect → Type 0
IsDoneIn skyline rect = Contains skyline.runs.items rect

-- an active rectangle lies over the column
pub record IsActiveOver (skyline : Skyline) (x : ℤ) : Type 0 where
  pub rect : Rect
  pub is_active : IsActiveIn skyline rect
  pub over : IsIn rect.x0 rect.x1 x

-- the cell lies in an active rectangle, or in a finished one
pub record IsUnder (skyline : Skyline) (c : Cell) : Type 0 where
  pub rect : Rect
  pub part : IsActiveIn skyline rect ⊎ IsDoneIn skyline rect
  pub has : Has rect c

-- no two rectangles have a cell in common, and each column has one active rectangle at most
pub record IsSkyline (skyline : Skyline) : Type 0 where
  pub by_column : (x : ℤ) (rect : Rect) → get int_cmp skyline.active x ≡ Some rect → rect.x0 ≡ x
  pub one_over : (a b : Rect) (x : ℤ) → IsActiveIn skyline a → IsActiveIn skyline b → IsIn a.x0 a.x1 x → IsIn b.x0 b.x1 x → a ≡ b
  pub apart : AreApart skyline.runs.items
  pub clear : (run rect : Rect) (c : Cell) → IsDoneIn skyline run → IsActiveIn skyline rect → Has run c → Has rect c → ⊥

-- active rectangles begin no higher than at this row, and finished ones end no higher than there
pub record IsBelow (row : ℤ) (skyline : Skyline) : Type 0 where
  pub begun : (rect : Rect) → IsActiveIn skyline rect → rect.y0 ≤ℤ row
  pub ended : (run : Rect) → IsDoneIn skyline run → run.y1 ≤ℤ row

-- the cell lies in the rows of the rectangle, and in these columns
pub record IsInPart (low high : ℤ) (rect : Rect) (c : Cell) : Type 0 where
  pub across : IsIn low high c.i
  pub up : IsIn rect.y0 rect.y1 c.j

-- nothing is active over these columns, and no finished rectangle has a cell of the rectangle in them
pub record HasRoom (skyline : Skyline) (low high : ℤ) (rect : Rect) : Type 0 where
  pub columns : (x : ℤ) → IsIn low high x → IsActiveOver skyline x → ⊥
  pub cells : (run : Rect) (c : Cell) → IsDoneIn skyline run → Has run c → IsInPart low high rect c → ⊥

-- each active rectangle begins and ends at one of these columns
pub record HasSides (xs : List ℤ) (skyline : Skyline) : Type 0 where
  pub begins : (rect : Rect) → IsActiveIn skyline rect → Contains xs rect.x0
  pub ends : (rect : Rect) → IsActiveIn skyline rect → Contains xs rect.x1

-- each of the rectangles begins and ends at one of these columns
abbrev pub HaveSides : List ℤ → List Rect → Type 0
HaveSides xs rects = All (λ rect. Contains xs rect.x0 × Contains xs rect.x1) rects

-- the part of the rectangle in these columns is opened, and nothing else changes but how active rectangles are joined
pub record Activates (old new : Skyline) (low high : ℤ) (rect : Rect) : Type 0 where
  pub sound : IsSkyline new
  pub cells : (c : Cell) → IsUnder new c ↔ (IsUnder old c ⊎ IsInPart low high rect c)
  pub columns : (x : ℤ) → IsActiveOver new x ↔ (IsActiveOver old x ⊎ IsIn low high x)
  pub runs : new.runs.items ≡ old.runs.items
  pub below : (row : ℤ) → IsBelow row old → rect.y0 ≤ℤ row → IsBelow row new
  pub sides : (xs : List ℤ) → HasSides xs old → Contains xs low → Contains xs high → HasSides xs new

-- the active rectangle is taken out, and leaves its room
pub record TakesOut (old new : Skyline) (rect : Rect) : Type 0 where
  pub sound : IsSkyline new
  pub cells : (c : Cell) → IsUnder old c ↔ (IsUnder new c ⊎ Has rect c)
  pub columns : (x : ℤ) → IsActiveOver old x ↔ (IsActiveOver new x ⊎ IsIn rect.x0 rect.x1 x)
  pub runs : new.runs.items ≡ old.runs.items
  pub room : HasRoom new rect.x0 rect.x1 rect
  pub below : (row : ℤ) → IsBelow row old → IsBelow row new
  pub sides : (xs : List ℤ) → HasSides xs old → HasSides xs new

-- the rectangle is finished
pub record Finishes (old new : Skyline) (rect : Rect) : Type 0 where
  pub sound : IsSkyline new
  pub cells : (c : Cell) → IsUnder new c ↔ (IsUnder old c ⊎ Has rect c)
  pub columns : (x : ℤ) → IsActiveOver new x ↔ IsActiveOver old x
  pub runs : new.runs.items ≡ old.runs.items ++ rect ∷ []
  pub below : (row : ℤ) → IsBelow row old → rect.y1 ≤ℤ row → IsBelow row new
  pub sides : (xs : List ℤ) → HasSides xs old → HasSides xs new

-- the rectangle takes an active neighbour of the same rows in, which is active no longer
pub record Joins (old new : Skyline) (rect joined : Rect) : Type 0 where
  pub sound : IsSkyline new
  pub room : HasRoom new joined.x0 joined.x1 joined
  pub cells : (c : Cell) → (IsUnder new c ⊎ Has joined c) ↔ (IsUnder old c ⊎ Has rect c)
  pub columns : (x : ℤ) → (IsActiveOver new x ⊎ IsIn joined.x0 joined.x1 x) ↔ (IsActiveOver old x ⊎ IsIn rect.x0 rect.x1 x)
  pub runs : new.runs.items ≡ old.runs.items
  pub rows : joined.y0 ≡ rect.y0
  pub below : (row : ℤ) → IsBelow row old → IsBelow row new
  pub sides : (xs : List ℤ) → HasSides xs old → Contains xs rect.x0 → Contains xs rect.x1 →
      HasSides xs new × Contains xs joined.x0 × Contains xs joined.x1

-- this active rectangle reaches into the columns of the rectangle, and nothing is active from it up to the column `end`
pub record IsNextActive (skyline : Skyline) (active rect : Rect) (end : ℤ) : Type 0 where
  pub is_active : IsActiveIn skyline active
  pub begins : active.x0 <ℤ end
  pub reaches : rect.x0 <ℤ active.x1
  pub free : (x : ℤ) → IsIn active.x1 end x → IsActiveOver skyline x → ⊥

-- of the columns of the rectangle before `start` those before `end` are still to be added, and those from there on were
-- added; over those before `end`, from `column` on, nothing is active
pub record IsAddedTo (old now : Skyline) (rect : Rect) (column start end : ℤ) : Type 0 where
  pub sound : IsSkyline now
  pub below : IsBelow rect.y0 now
  pub cells : (c : Cell) → (IsUnder now c ⊎ IsInPart rect.x0 end rect c) ↔ (IsUnder old c ⊎ IsInPart rect.x0 start rect c)
  pub free : (x : ℤ) → column ≤ℤ x → IsIn rect.x0 end x → IsActiveOver now x → ⊥
  pub from : rect.x0 ≤ℤ end
  pub up_to : end ≤ℤ start
  pub looked : column ≤ℤ end
  pub sides : (xs : List ℤ) → HasSides xs old → Contains xs rect.x0 → Contains xs start → HasSides xs now × Contains xs end

-- the cell lies in the active rectangle, and below the other rectangle where it lies in the columns of that one that
-- come before `end`
pub record IsInRest (active rect : Rect) (end : ℤ) (c : Cell) : Type 0 where
  pub has : Has active c
  pub lower : IsIn rect.x0 end c.i → c.j <ℤ rect.y0

-- of an active rectangle that was taken out, what lies beside and below these columns of the other rectangle is kept
pub record KeepsRest (old new : Skyline) (active rect : Rect) (end : ℤ) : Type 0 where
  pub sound : IsSkyline new
  pub cells : (c : Cell) → IsUnder new c ↔ (IsUnder old c ⊎ IsInRest active rect end c)
  pub columns : (x : ℤ) → IsIn rect.x0 end x → IsActiveOver new x → IsActiveOver old x
  pub below : IsBelow rect.y0 old → active.y0 ≤ℤ rect.y0 → IsBelow rect.y0 new
  pub sides : (xs : List ℤ) → HasSides xs old → Contains xs active.x0 → Contains xs active.x1 → Contains xs rect.x0 →
      Contains xs end → HasSides xs new

-- the cell lies in the active rectangle, in these columns of the other rectangle and below it
pub record IsInLower (active rect : Rect) (end : ℤ) (c : Cell) : Type 0 where
  pub has : Has active c
  pub across : IsIn rect.x0 end c.i
  pub lower : c.j <ℤ rect.y0

-- what lies below these columns of the other rectangle is finished
pub record FinishesLower (old new : Skyline) (active rect : Rect) (end : ℤ) : Type 0 where
  pub sound : IsSkyline new
  pub cells : (c : Cell) → IsUnder new c ↔ (IsUnder old c ⊎ IsInLower active rect end c)
  pub columns : (x : ℤ) → IsActiveOver new x → IsActiveOver old x
  pub below : IsBelow rect.y0 old → IsBelow rect.y0 new
  pub sides : (xs : List ℤ) → HasSides xs old → HasSides xs new

-- a list of rectangles gains what the two have in common
pub record GainsCommon (old new : List Rect) (active rect : Rect) : Type 0 where
  pub level : All (λ part. part.y0 ≡ rect.y0) old → All (λ part. part.y0 ≡ rect.y0) new
  pub cells : (c : Cell) → IsInUnion new c ↔ (IsInUnion old c ⊎ (Has active c × Has rect c))
  pub sides : (xs : List ℤ) → HaveSides xs old → Contains xs active.x0 → Contains xs active.x1 → Contains xs rect.x0 →
      Contains xs rect.x1 → HaveSides xs new
  pub one : length new ≤ length old + 1

-- of the cells of the rectangle that the skyline has, those in columns from `column` on lie in the parts
pub record IsCommonFrom (skyline : Skyline) (rect : Rect) (column : ℤ) (parts : List Rect) : Type 0 where
  pub level : All (λ part. part.y0 ≡ rect.y0) parts
  pub cells : (c : Cell) → IsInUnion parts c → IsUnder skyline c × Has rect c
  pub from : (c : Cell) → column ≤ℤ c.i → IsUnder skyline c → Has rect c → IsInUnion parts c
