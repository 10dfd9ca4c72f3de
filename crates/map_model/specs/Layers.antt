-- metals and cuts as the layers that they map
use Rattle.std.specs.Prelude.{ℕ, ◌<◌, List, ◌++◌, map, flat_map}
use Rattle.map_model.specs.LayerMap.{MappedLayer, MappedCut}
use Rattle.map_model.specs.declared.layers.Metal.{Metal}
use Rattle.map_model.specs.declared.layers.Cut.{Cut}

-- a metal's name and pairs
abbrev pub metal_layer : Metal → MappedLayer
metal_layer metal = record { name = metal.name; pairs = metal.pairs }

-- a cut's name and pairs
abbrev pub cut_layer : Cut → MappedLayer
cut_layer cut = record { name = cut.name; pairs = cut.pairs }

-- a cut as layer maps have it
abbrev pub mapped_cut : Cut → MappedCut
mapped_cut cut = record { mapped = cut_layer cut; lower = cut.lower; upper = cut.upper }

-- the metals, and then the cuts
abbrev pub mapped_layers : List Metal → List Cut → List MappedLayer
mapped_layers metals cuts = map metal_layer metals ++ map (λ cut. cut.mapped) (map mapped_cut cuts)

-- the names of layers
abbrev pub names_of : List MappedLayer → List (List ℕ)
names_of = map (λ layer. layer.name)

-- the pairs of layers, one layer after the other
abbrev pub pairs_of : List MappedLayer → List (ℕ × ℕ)
pairs_of = flat_map (λ layer. layer.pairs)

-- the cut joins two of so many metals
pub record JoinsMetals (count : ℕ) (cut : Cut) : Type 0 where
  pub lower : cut.lower < count
  pub upper : cut.upper < count
