use Rattle.std.proofs.Common.{◌++◌, map, take}
use Rattle.toml.specs.View.{table_view}
use Rattle.layer_map.specs.CutChecks.{cut_checks}
use Rattle.layer_map.specs.Documents.{GivesCut}
use Rattle.layer_map.specs.MapChecks.{cuts_are_array, cuts_are_few, of_cut}
use Rattle.layer_map.specs.Values.{cuts_in, metals_in}
use Rattle.layer_map.specs.inside.ReadLayers.{AreSeen}
use Rattle.layer_map.specs.inside.ReadMetals.{TakesMetals}
use Rattle.map_model.specs.MapNames.{mapped_cut, metal_layer}
use Rattle.layer_map.proofs.EachLaws.{ReadSoFar}
use Rattle.layer_map.proofs.cuts.read_cuts.Given as goal

abbrev pub invariant-loop-number : goal.invariant-loop-number
invariant-loop-number l = TakesMetals (table_view l.document) l.initial.seen l.metals → record {
  read : ReadSoFar (table_view l.document) cuts_are_array cuts_are_few of_cut cut_checks (cuts_in (table_view l.document)) (GivesCut (map metal_layer l.metals)) mapped_cut l.number l.cuts.items;
  are_seen : AreSeen (metals_in (table_view l.document) ++ take l.number (cuts_in (table_view l.document))) l.seen;
}
