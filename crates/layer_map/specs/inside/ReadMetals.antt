-- what is read of metals
use Rattle.std.specs.Prelude.{◌≡◌, ◌≤◌, List, length, map}
use Rattle.lists.specs.Words.{AllZip}
use Rattle.toml.specs.Data.{Data, Members}
use Rattle.layer_map.specs.Documents.{GivesLayer}
use Rattle.map_model.specs.MapNames.{metal_layer}
use Rattle.layer_map.specs.Values.{name_of_item, metals_in}
use Rattle.map_model.specs.declared.limits.TheConstants.{MOST_METALS}
use Rattle.layer_map.specs.declared.seen.Seen.{Seen}
use Rattle.map_model.specs.declared.layers.Metal.{Metal}
use Rattle.layer_map.specs.inside.ReadLayers.{AreSeen, written_name}

-- the items have the names of these metals at `name`
abbrev pub HaveNamesOf : List Data → List Metal → Type 0
HaveNamesOf items metals = map name_of_item items ≡ map written_name (map (λ metal. metal.name) metals)

-- these metals are those of the document, and their names and pairs were seen
pub record TakesMetals (document : Members) (seen : Seen) (metals : List Metal) : Type 0 where
  pub some : 1 ≤ length metals
  pub few : length metals ≤ MOST_METALS
  pub gives_them : AllZip GivesLayer (metals_in document) (map metal_layer metals)
  pub are_seen : AreSeen (metals_in document) seen
