-- what tiles are counted for
use Rattle.std.specs.Prelude.{ℕ, List, Some, slice_get, ◌≡◌}
use Rattle.questions.specs.declared.question.Question.{Question}
use Rattle.tile_plan.specs.TileTallies.{IsTallyOfTile}
use Rattle.tile_plan.specs.declared.tiles.TilePlan.{TilePlan}
use Rattle.area_parts.specs.AskedCounts.{IsCounted}
use Rattle.area_parts.specs.declared.parts.Parts.{Parts}

-- questions, the parts of which they are asked, and the tiles over which they are counted
pub record Work : Type 0 where
  pub parts : Parts
  pub questions : List Question
  pub plan : TilePlan

-- the number is how many cells of the tile with the number `k` are counted for the question of this slot
abbrev pub IsAmountOfTile : Work → ℕ → ℕ → ℕ → Type 0
IsAmountOfTile work k slot n =
    (question : Question) → slice_get work.questions slot ≡ Some question → IsTallyOfTile (IsCounted work.parts question) work.plan k n
