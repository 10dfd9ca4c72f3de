-- how many layers a map has
use Rattle.std.proofs.Common.{◌+◌, ◌≡◌, ap, ◌∙◌, length, length-append, List, map}
use Rattle.lists.proofs.Words.{length-map}
use Rattle.map_model.specs.MapNames.{metal_layer, mapped_cut, mapped_layers}
use Rattle.map_model.specs.declared.layers.Cut.{Cut}
use Rattle.map_model.specs.declared.layers.Metal.{Metal}

-- its metals and its cuts
pub layer_count : (metals : List Metal) (cuts : List Cut) → length (mapped_layers metals cuts) ≡ length metals + length cuts
layer_count metals cuts =
    length-append (map metal_layer metals) (map (λ cut. cut.mapped) (map mapped_cut cuts)) ∙ ap (λ n. n + length (map (λ cut. cut.mapped) (map mapped_cut cuts))) (length-map metals metal_layer)
    ∙ ap (λ n. length metals + n) (length-map (map mapped_cut cuts) (λ cut. cut.mapped) ∙ length-map cuts mapped_cut)
