-- what is put in order for the tiles of a window
use Rattle.std.specs.Prelude.{ℕ, List, [], Some, length, slice_get, slice_index_or, ◌≡◌, ◌<◌, ◌↔◌}
use Rattle.std.specs.List.Sorted.{IsPermutation}
use Rattle.geo_core.specs.Plane.{Has, IsInUnion}
use Rattle.geo_core.specs.declared.plane.Cell.{Cell}
use Rattle.geo_core.specs.declared.plane.Labelled.{Labelled}
use Rattle.geo_core.specs.declared.plane.Rect.{Rect}
use Rattle.questions.specs.Questions.{side_of}
use Rattle.questions.specs.declared.kind.Kind.TheVariants.{Open}
use Rattle.questions.specs.declared.question.Question.{Question}
use Rattle.critical_areas.specs.declared.apart.Apart.{Apart}
use Rattle.area_parts.specs.declared.parts.Parts.{Parts}
use Rattle.critical_areas.specs.inside.IslandsApart.{AreApart, IsOneOpen, none_apart}

-- each list has the items of the one with its number, in an order of its own; there may be fewer lists, or none
abbrev pub AreReordered : {X : Type 0} → List (List X) → List (List X) → Type 0
AreReordered lists indexes = (number : ℕ) → number < length indexes
    → IsPermutation (slice_index_or lists number []) (slice_index_or indexes number [])

-- the rectangles have exactly the cells of the window at which the defect of the question parts two anchors of a large island of its
-- metal
abbrev pub AreOpensIn : Parts → List Apart → Rect → Question → List Rect → Type 0
AreOpensIn parts apart window question rects =
    (c : Cell) → IsInUnion rects c ↔ (Has window c
    × IsOneOpen (slice_index_or parts.islands question.number []) (slice_index_or apart question.number none_apart).large (side_of question) c)

-- a question on opens has them
abbrev pub HasItsOpens : Parts → List Apart → Rect → Question → List Rect → Type 0
HasItsOpens parts apart window question rects = question.kind ≡ Open → AreOpensIn parts apart window question rects

-- the islands of metals are apart, and the indexes are of the opens of questions, of the pieces of metals and of the boxes of cuts,
-- of all of them or of none
pub record AreIndexesOf (parts : Parts) (questions : List Question) (window : Rect) (islands : List Apart)
    (opens : List (List Rect)) (metals : List (List Labelled)) (cuts : List (List Rect)) : Type 0 where
  pub of_islands : (number : ℕ) → number < length islands
      → AreApart (slice_index_or parts.islands number []) (slice_index_or islands number none_apart)
  pub of_opens : (slot : ℕ) (question : Question) → slot < length opens → slice_get questions slot ≡ Some question
      → HasItsOpens parts islands window question (slice_index_or opens slot [])
  pub of_metals : AreReordered parts.metals metals
  pub of_cuts : AreReordered parts.cuts cuts
