-- Names that are cited together, passed on from one place.
pub use Rattle.map_model.specs.LayerMap.{LayerMap, IsMappedTo, layers_of, one_metal_map, reach_of, MappedLayer, MappedCut, DefectSize}
pub use Rattle.map_model.specs.LayerMap.{weighed_size}
pub use Rattle.map_model.specs.LayerNames.{IsLayerName, is_name_byte}
pub use Rattle.map_model.specs.Layers.{metal_layer, mapped_cut, mapped_layers, pairs_of, JoinsMetals, cut_layer, names_of}
pub use Rattle.map_model.specs.Limits.{IsPair, IsSize, AreSizes, AreWeights, ArePairs}
pub use Rattle.map_model.specs.MapView.{layer_map_of, terminal_of, sizes_of}
pub use Rattle.map_model.specs.Measures.{greatest_size, side_by}
