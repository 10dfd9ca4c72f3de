-- a map as a layer map
use Rattle.std.specs.Prelude.{ℕ, List, map, zip}
use Rattle.geo_core.specs.declared.plane.Cell.{Cell}
use Rattle.map_model.specs.LayerMap.{LayerMap, DefectSize, weighed_size}
use Rattle.map_model.specs.Layers.{metal_layer, mapped_cut}
use Rattle.map_model.specs.declared.layers.Terminal.{Terminal}
use Rattle.map_model.specs.declared.map.Map.{Map}

-- a terminal's metal and cell
abbrev pub terminal_of : Terminal → ℕ × Cell
terminal_of terminal = (terminal.metal, terminal.cell)

-- numbers with their weights, as sizes of defects
abbrev pub sizes_of : List ℕ → List ℕ → List DefectSize
sizes_of numbers weights = map weighed_size (zip numbers weights)

-- the layer map that a map stands for
abbrev pub layer_map_of : Map → LayerMap
layer_map_of given = record {
  metals = map metal_layer given.metals;
  cuts = map mapped_cut given.cuts;
  measure = given.measure;
  sizes = sizes_of given.sizes given.weights;
  terminals = map terminal_of given.terminals;
  contacts = given.contacts;
}
