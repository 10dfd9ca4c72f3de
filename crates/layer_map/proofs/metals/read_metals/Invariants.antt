use Rattle.std.proofs.Common.{take}
use Rattle.toml.specs.View.{table_view}
use Rattle.layer_map.specs.Documents.{GivesLayer}
use Rattle.layer_map.specs.LayerChecks.{layer_checks}
use Rattle.layer_map.specs.MapChecks.{has_metals, metals_are_few, of_metal}
use Rattle.layer_map.specs.Values.{metals_in}
use Rattle.layer_map.specs.inside.ReadLayers.{AreSeen}
use Rattle.map_model.specs.MapNames.{metal_layer}
use Rattle.layer_map.proofs.EachLaws.{ReadSoFar}
use Rattle.layer_map.proofs.metals.read_metals.Given as goal

abbrev pub invariant-loop-number : goal.invariant-loop-number
invariant-loop-number l = record {
  read : ReadSoFar (table_view l.document) has_metals metals_are_few of_metal layer_checks (metals_in (table_view l.document)) GivesLayer metal_layer l.number l.metals.items;
  are_seen : AreSeen (take l.number (metals_in (table_view l.document))) l.seen;
}
