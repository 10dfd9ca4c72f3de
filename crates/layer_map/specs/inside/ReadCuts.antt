-- what is read of cuts
use Rattle.std.specs.Prelude.{ℕ, ◌≡◌, ◌≤◌, List, [], ◌∷◌, ◌++◌, length, map, All}
use Rattle.lists.specs.Words.{AllZip}
use Rattle.toml.specs.Data.{Data, Members}
use Rattle.layer_map.specs.Documents.{GivesCut, NamesMetal}
use Rattle.map_model.specs.MapNames.{JoinsMetals, mapped_cut, mapped_layers, metal_layer, names_of, pairs_of}
use Rattle.lists.specs.Differing.{AreDifferent}
use Rattle.layer_map.specs.Values.{lower_of_item, upper_of_item, cuts_in}
use Rattle.map_model.specs.declared.limits.TheConstants.{MOST_CUTS}
use Rattle.layer_map.specs.declared.seen.Seen.{Seen}
use Rattle.map_model.specs.declared.layers.Cut.{Cut}
use Rattle.map_model.specs.declared.layers.Metal.{Metal}
use Rattle.layer_map.specs.inside.ReadLayers.{AreSeen}

-- these are the numbers of the two metals that the item names
pub record TakesEnds (metals : List Metal) (item : Data) (ends : ℕ × ℕ) : Type 0 where
  pub lower : NamesMetal (map metal_layer metals) (lower_of_item item) ends.0
  pub upper : NamesMetal (map metal_layer metals) (upper_of_item item) ends.1

-- the item, behind these, gives this cut between two of the metals, whose name and pairs were added to those that were seen
pub record TakesCut (metals : List Metal) (earlier : List Data) (item : Data) (old new : Seen) (cut : Cut) : Type 0 where
  pub gives_it : GivesCut (map metal_layer metals) item (mapped_cut cut)
  pub names : new.names.items ≡ old.names.items ++ cut.name ∷ []
  pub pairs : new.pairs.items ≡ old.pairs.items ++ cut.pairs
  pub are_seen : AreSeen (earlier ++ item ∷ []) new

-- these cuts are those of the document, whose metals are these
pub record TakesCuts (document : Members) (metals : List Metal) (cuts : List Cut) : Type 0 where
  pub few : length cuts ≤ MOST_CUTS
  pub gives_them : AllZip (GivesCut (map metal_layer metals)) (cuts_in document) (map mapped_cut cuts)
  pub names_differ : AreDifferent (names_of (mapped_layers metals cuts))
  pub pairs_differ : AreDifferent (pairs_of (mapped_layers metals cuts))
  pub joins : All (JoinsMetals (length metals)) cuts
