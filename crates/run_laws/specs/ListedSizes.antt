-- maps that list fewer sizes than the one that is asked of them, and maps that lack the layer
use Rattle.std.specs.Prelude.{ℕ, List, length, ◌≡◌, ◌<◌, ◌≤◌}
use Rattle.first_refusal.specs.Outcomes.{value}
use Rattle.map_model.specs.MapNames.{LayerMap}
use Rattle.questions.specs.declared.kind.Kind.{Kind}
use Rattle.critarea_core.specs.Inquiries.{IsLayerOfName}
use Rattle.critarea_core.specs.Verdict.{MapTextComesTo}

-- the text is that of a good map, which lists this many sizes, and they are fewer than the number
pub record ListsFewer (text : List ℕ) (number sizes : ℕ) : Type 0 where
  pub layer_map : LayerMap
  pub comes : MapTextComesTo text (value layer_map)
  pub listed : length layer_map.sizes ≡ sizes
  pub fewer : sizes < number

-- the text is that of a good map, which lists as many sizes as the number or more, and has no metal of this name, or for via blocks
-- no cut
pub record LacksLayer (text : List ℕ) (kind : Kind) (name : List ℕ) (number : ℕ) : Type 0 where
  pub layer_map : LayerMap
  pub comes : MapTextComesTo text (value layer_map)
  pub listed : number ≤ length layer_map.sizes
  pub lacking : (layer : ℕ) → IsLayerOfName layer_map kind name layer → ⊥
