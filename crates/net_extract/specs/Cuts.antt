-- the cuts of a layer map, as nets and clusters take them
use Rattle.std.specs.Prelude.{ℕ, if◌then◌else◌, List, [], map, length}
use Rattle.lists.specs.Words.{enumerate_from}
use Rattle.fault_model.specs.FaultNames.{Cut}
use Rattle.map_model.specs.MapNames.{LayerMap, MappedCut}

-- the cuts, each with its number, which goes on behind those of the metals
abbrev pub numbered_cuts : LayerMap → List (ℕ × MappedCut)
numbered_cuts layer_map = enumerate_from (length layer_map.metals) layer_map.cuts

-- a cut, with the numbers of its two metals
abbrev pub cut_of : ℕ × MappedCut → Cut
cut_of numbered = record { number = numbered.0; lower = numbered.1.lower; upper = numbered.1.upper }

-- all cuts
abbrev pub cuts_of : LayerMap → List Cut
cuts_of layer_map = map cut_of (numbered_cuts layer_map)

-- the cuts whose clusters are terminals: all of them or none, as the map says
abbrev pub terminal_cuts_of : LayerMap → List Cut
terminal_cuts_of layer_map = if layer_map.contacts then cuts_of layer_map else []

-- the lower and the upper metal of each cut
abbrev pub ends_of : LayerMap → List (ℕ × ℕ)
ends_of layer_map = map (λ cut. (cut.lower, cut.upper)) layer_map.cuts
