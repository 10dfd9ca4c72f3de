-- what readers of a layout answer: the rectangles of what its shapes cover, layer by layer
use Rattle.std.specs.Prelude.{ℕ, List, [], flat_map, filter, All, length, slice_index_or, ◌==◌, ◌≡◌, ◌<◌, ◌↔◌}
use Rattle.geo_core.specs.Plane.{IsInLayout, IsCoveredIn}
use Rattle.geo_core.specs.declared.plane.Cell.{Cell}
use Rattle.geo_core.specs.declared.plane.Rect.{Rect}
use Rattle.flatten.specs.declared.placed.Placed.{Placed}
use Rattle.map_model.specs.MapNames.{LayerMap, layers_of}
use Rattle.map_model.specs.declared.layer_lists.Layers.{Layers}
use Rattle.run_inputs.specs.Coverage.{IsCoveredOn}
use Rattle.run_inputs.specs.Layout.{Subject}

-- a placed shape with the rectangles of its cover
abbrev pub Covered : Type 0
Covered = Placed × List Rect

-- the rectangles of the shapes on the layer with this number, in the order of the shapes
abbrev pub rects_on : ℕ → List Covered → List Rect
rects_on number covered = flat_map (λ one. one.1) (filter (λ one. one.0.layer == number) covered)

-- the first lists: there are so many, and each has the rectangles of the layer with its number
pub record AreListsUpTo (covered : List Covered) (n : ℕ) (lists : List (List Rect)) : Type 0 where
  pub as_many : length lists ≡ n
  pub each : (number : ℕ) → number < n → slice_index_or lists number [] ≡ rects_on number covered

-- the lists have what the subject's shapes cover, one list for each layer of its map
pub record AreLayersOf (subject : Subject) (lists : List (List Rect)) : Type 0 where
  pub one_each : length lists ≡ length (layers_of subject.layer_map)
  pub within : All (All IsInLayout) lists
  pub covers : (number : ℕ) (c : Cell) → IsCoveredIn lists number c ↔ IsCoveredOn subject.layer_map subject.routes number c

-- the layers are those of the subject, which has this layer map and these units
pub record AreLayersFor (layer_map : LayerMap) (units : List ℕ) (subject : Subject) (found : Layers) : Type 0 where
  pub of_map : subject.layer_map ≡ layer_map
  pub of_units : subject.units ≡ units
  pub layers : AreLayersOf subject found.lists.items
