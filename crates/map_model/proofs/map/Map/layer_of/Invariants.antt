use Rattle.std.proofs.Common.{map}
use Rattle.map_model.specs.MapNames.{metal_layer, cut_layer}
use Rattle.map_model.proofs.MappedLaws.{NoneHas}
use Rattle.map_model.proofs.map.Map.layer_of.Given as goal

abbrev pub invariant-metals : goal.invariant-metals
invariant-metals l = NoneHas (map metal_layer l.self.metals) (l.layer, l.datatype) l.number

abbrev pub invariant-cuts : goal.invariant-cuts
invariant-cuts l = NoneHas (map cut_layer l.self.cuts) (l.layer, l.datatype) l.number
