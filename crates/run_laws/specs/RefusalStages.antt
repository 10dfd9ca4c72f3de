-- of which stage a refusal is, by its status and its number
use Rattle.std.specs.Prelude.{◌≡◌, ◌≤◌}
use Rattle.run_inputs.specs.declared.refusal.Refusal.{Refusal}

-- the refusal is one of the words, of the map, of a size or a layer that the task names and the map lacks, of the layout's bytes and
-- shapes, or of a terminal that is not on its metal
pub data IsOfStage (refusal : Refusal) : Type 0 where
  of_words : refusal.status ≡ 2 → refusal.number ≡ 2 → IsOfStage refusal
  of_map : refusal.status ≡ 3 → 39 ≤ refusal.number → refusal.number ≤ 47 → IsOfStage refusal
  of_size : refusal.status ≡ 3 → refusal.number ≡ 48 → IsOfStage refusal
  of_layer : refusal.status ≡ 3 → refusal.number ≡ 49 → IsOfStage refusal
  of_layout : refusal.status ≡ 4 → 9 ≤ refusal.number → refusal.number ≤ 36 → IsOfStage refusal
  of_terminal : refusal.status ≡ 4 → refusal.number ≡ 50 → IsOfStage refusal
