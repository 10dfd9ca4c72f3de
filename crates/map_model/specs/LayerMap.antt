-- layer maps: which layers of a layout are metals and cuts, and for which sizes of defects areas are wanted
use Rattle.std.specs.Prelude.{ℕ, Bool, false, ◌≡◌, ◌/◌, List, [], ◌∷◌, ◌++◌, map, codes, fold, max, Contains, slice_get, Some}
use Rattle.geo_core.specs.declared.plane.Cell.{Cell}
use Rattle.map_model.specs.Measures.{side_by}
use Rattle.map_model.specs.declared.measure.Measure.{Measure}
use Rattle.map_model.specs.declared.measure.Measure.TheVariants.{Radius}

-- a size of defects, by the measure of its map, and its weight
pub record DefectSize : Type 0 where
  pub size : ℕ
  pub weight : ℕ

-- a metal's or a cut's name, and the layers and datatypes of its shapes
pub record MappedLayer : Type 0 where
  pub name : List ℕ
  pub pairs : List (ℕ × ℕ)

-- a cut, and the numbers of the two metals that it joins
pub record MappedCut : Type 0 where
  pub mapped : MappedLayer
  pub lower : ℕ
  pub upper : ℕ

-- One measure tells what all sizes are. The terminals are cells, each with the number of its metal, and where `contacts` says so
-- also the via clusters of the cuts.
pub record LayerMap : Type 0 where
  pub metals : List MappedLayer
  pub cuts : List MappedCut
  pub measure : Measure
  pub sizes : List DefectSize
  pub terminals : List (ℕ × Cell)
  pub contacts : Bool

-- the metals and then the cuts: each has its place here, counted from 0, as its number
abbrev pub layers_of : LayerMap → List MappedLayer
layers_of layer_map = layer_map.metals ++ map (λ cut. cut.mapped) layer_map.cuts

-- the layer with this number has the pair
pub record HasPair (layers : List MappedLayer) (pair : ℕ × ℕ) (number : ℕ) : Type 0 where
  pub mapped : MappedLayer
  pub numbered : slice_get layers number ≡ Some mapped
  pub among : Contains mapped.pairs pair

-- shapes of this layer and datatype are of the metal or the cut with this number
abbrev pub IsMappedTo : LayerMap → ℕ × ℕ → ℕ → Type 0
IsMappedTo layer_map = HasPair (layers_of layer_map)

-- how far a defect reaches at most: half of the greatest side, rounded down
abbrev pub reach_of : LayerMap → ℕ
reach_of layer_map = fold max 0 (map (λ size. side_by layer_map.measure size.size / 2) layer_map.sizes)

-- a number with its weight, as a size of defects
abbrev pub weighed_size : ℕ × ℕ → DefectSize
weighed_size weighed = record { size = weighed.0; weight = weighed.1 }

-- one metal named m, of one layer and datatype; one radius, of weight 1; and nothing else
abbrev pub one_metal_map : ℕ → ℕ → ℕ → LayerMap
one_metal_map layer datatype radius = record {
  metals = record { name = codes "m"; pairs = (layer, datatype) ∷ [] } ∷ [];
  cuts = [];
  measure = Radius;
  sizes = weighed_size (radius, 1) ∷ [];
  terminals = [];
  contacts = false;
}
