-- the maps of tasks: where their sizes are radii, via clusters are no terminals
use Rattle.std.proofs.Common.{ℕ, ◌≡◌, ap, false, List}
use Rattle.first_refusal.specs.Outcomes.{goes_on, kept, value}
use Rattle.map_model.specs.MapNames.{LayerMap, one_metal_map}
use Rattle.map_model.specs.declared.measure.Measure.TheVariants.{Radius}
use Rattle.layer_map.proofs.laws.Maps.{radii_go_without_contacts}
use Rattle.layout_gen.specs.Generated.{generated_map}
use Rattle.command_line.specs.declared.task.Task.{Task}
use Rattle.command_line.specs.declared.task.Task.TheVariants.{OneMetal, Mapped, Generated, Pairs, Probe, Regions}
use Rattle.critarea_core.specs.Verdict.{MapComesTo, MapTextComesTo}

of_text : (text : List ℕ) (layer_map : LayerMap) → MapTextComesTo text (value layer_map) → layer_map.measure ≡ Radius → layer_map.contacts ≡ false
of_text text layer_map (goes_on {v = same} short (kept comes)) radii = radii_go_without_contacts same layer_map comes radii

pub maps_by_radii_name_terminals : (task : Task) (bytes : List ℕ → List ℕ) (layer_map : LayerMap) → MapComesTo task bytes (value layer_map)
    → layer_map.measure ≡ Radius → layer_map.contacts ≡ false
maps_by_radii_name_terminals (OneMetal layout layer datatype radius top) bytes layer_map is radii =
    let same : layer_map ≡ one_metal_map layer datatype radius = cc is in ap (λ (m : LayerMap). m.contacts) same
maps_by_radii_name_terminals (Mapped layout map_name top) bytes layer_map comes radii = of_text (bytes map_name) layer_map comes radii
maps_by_radii_name_terminals (Pairs layout map_name top size) bytes layer_map comes radii = of_text (bytes map_name) layer_map comes radii
maps_by_radii_name_terminals (Probe layout map_name top cell) bytes layer_map comes radii = of_text (bytes map_name) layer_map comes radii
maps_by_radii_name_terminals (Regions layout map_name top kind layer size) bytes layer_map comes radii =
    of_text (bytes map_name) layer_map comes radii
maps_by_radii_name_terminals (Generated columns) bytes layer_map comes radii = of_text generated_map layer_map comes radii
