use Rattle.std.proofs.Common.{◌∙◌, [], Some, ap}
use Rattle.lists.proofs.Containing.{Contains-slice_get, number_of}
use Rattle.lists.proofs.Mapping.{Contains-map}
use Rattle.layer_map.specs.ItemChecks.{is_metal, is_text, reference_checks}
use Rattle.layer_map.specs.inside.ReadLayers.{written_name}
use Rattle.first_refusal.proofs.JudgeLaws.{fails_first}
use Rattle.layer_map.proofs.EachLaws.{fails_second, passes_each}
use Rattle.layer_map.proofs.FindLaws.{found, none_found, none_stands}
use Rattle.layer_map.proofs.ReferenceLaws.{names_metal, no_text_there, text_is}
use Rattle.layer_map.proofs.SeenLaws.{name_among}
use Rattle.layer_map.proofs.items.metal_at.Goals as goal

pub returns-in-None : goal.returns-in-None
returns-in-None c items have = fails_first _ _ _ is_text _ (none_stands (no_text_there _ _ c.in-None.ensures))

pub returns-in-None-metal_named : goal.returns-in-None-metal_named
returns-in-None-metal_named c items have =
    let is = text_is _ c.as_bytes.result.now (ap Some c.as_bytes.ensures.value ∙ c.in-Some.ensures) in
    fails_second _ _ _ is_text is_metal [] (c.as_bytes.result.now, is, tt) (λ h.
    let (number, named) = number_of _ _ (name_among _ c.as_bytes.result.now (rw (have, is) at h)) in
    none_found c.in-None-metal_named.ensures number named)

pub returns-in-Some-metal_named : goal.returns-in-Some-metal_named
returns-in-Some-metal_named c items have =
    let is = text_is _ c.as_bytes.result.now (ap Some c.as_bytes.ensures.value ∙ c.in-Some.ensures) in
    let named = found c.in-Some-metal_named.ensures in
    passes_each _ reference_checks ((c.as_bytes.result.now, is, tt), (rw (have, is) (Contains-map written_name _ _ (Contains-slice_get _ _ _ named)), tt))
    (names_metal c.args.metals.now _ c.as_bytes.result.now is _ named)
