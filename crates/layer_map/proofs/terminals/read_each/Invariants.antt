use Rattle.std.proofs.Common.{◌≡◌, map}
use Rattle.toml.specs.View.{table_view}
use Rattle.lists.specs.Differing.{AreDifferent}
use Rattle.layer_map.specs.Documents.{GivesTerminal}
use Rattle.layer_map.specs.MapChecks.{of_terminal, terminals_are_array, terminals_are_few}
use Rattle.layer_map.specs.TerminalChecks.{terminal_checks}
use Rattle.layer_map.specs.Values.{terminals_in}
use Rattle.layer_map.specs.inside.ReadMetals.{TakesMetals}
use Rattle.layer_map.specs.inside.ReadTerminals.{place_of_terminal}
use Rattle.layer_map.specs.declared.seen.Seen.{Seen}
use Rattle.map_model.specs.MapNames.{metal_layer, terminal_of}
use Rattle.layer_map.proofs.EachLaws.{ReadSoFar}
use Rattle.layer_map.proofs.terminals.read_each.Given as goal

abbrev pub invariant-loop-number : goal.invariant-loop-number
invariant-loop-number l = (seen : Seen) → TakesMetals (table_view l.document) seen l.metals → record {
  read : ReadSoFar (table_view l.document) terminals_are_array terminals_are_few of_terminal terminal_checks (terminals_in (table_view l.document))
      (GivesTerminal (map metal_layer l.metals)) terminal_of l.number l.terminals.items;
  places_are : l.places.keys ≡ map place_of_terminal l.terminals.items;
  differ : AreDifferent l.terminals.items;
}
